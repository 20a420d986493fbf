-- What the words behind the program's name ask for.
pub mod Words
