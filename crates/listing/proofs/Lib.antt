-- Lemmas on bytes that are appended, on numbers in columns, on rows, on a listing one line on, and on its lines.
mod Appending
mod Columns
mod Printed
pub mod Reaching
mod Reading
mod Replays
