-- Lemmas on the reading and the writing of digits, and on what a writer holds.
mod HexReads
mod HexTexts
mod Numerals
pub mod Writers
