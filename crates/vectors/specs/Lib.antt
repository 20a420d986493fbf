-- What cases say and give.
pub mod Answers
pub mod Cases
pub mod Words
pub mod Texts
pub mod Streams
