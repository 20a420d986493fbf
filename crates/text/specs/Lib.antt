-- What texts of numbers and bytes say.
pub mod Numbers
pub mod Hex
pub mod Decimal
pub mod Lines
