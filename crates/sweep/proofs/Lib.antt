pub mod Asking
pub mod Counting
pub mod Cutting
pub mod Fillers
pub mod Fixed
pub mod Halves
pub mod Sending
