-- What the listing's lines say, the rows that are printed, and what a listing comes to on a board.
pub mod Lines
pub mod Rows
pub mod Appends
pub mod Replaying
pub mod Listing
pub mod Streams
