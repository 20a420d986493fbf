-- What the checksum and the frame are.
pub mod Checksum
pub mod Frame
