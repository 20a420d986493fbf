pub mod Fronts
pub mod Given
pub mod Lengths
pub mod Opened
pub mod Words
