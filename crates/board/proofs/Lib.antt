mod Bodies
mod Commanding
mod Stepping
pub mod Exits
pub mod KeyJudging
pub mod Opening
pub mod Outcome
pub mod Judging
pub mod Booting
pub mod Hearing
pub mod Calling
pub mod Histories
pub mod Buffers
