-- The frames that the demonstration sends.
pub mod Frames
