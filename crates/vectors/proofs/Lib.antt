mod Fronts
pub mod CaseWords
mod Streaming
