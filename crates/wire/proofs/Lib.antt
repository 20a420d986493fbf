-- Lemmas on the checksum and on frames.
pub mod Frames
mod Shifts
mod Writes
