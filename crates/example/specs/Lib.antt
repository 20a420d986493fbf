-- The parts of the example update, and the calls that send a frame.
pub mod Frames
pub mod Parts
