-- What is sent to a board while it is measured, and the names of what is measured.
pub mod Sending
pub mod Works
