-- What the array of a buffer holds: the bytes in use, then zeros.
pub mod Padded
