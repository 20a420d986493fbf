pub mod Flats
pub mod Tables
pub mod Sboxes
pub mod Opens
pub mod Streams
pub mod Horners
