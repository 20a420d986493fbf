-- What the words of the program ask for, the frame that they get, and what is told where they get none.
pub mod Arguments
pub mod Report
pub mod Showing
pub mod Usage
