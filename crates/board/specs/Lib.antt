-- What a board, its receiver and its packets mean in the words of the rules, and what its calls leave, answer and send.
pub mod Progress
pub mod Reading
pub mod Wiped
pub mod Opening
pub mod States
pub mod Keys
pub mod Judging
pub mod Outcomes
pub mod Answers
pub mod Booting
pub mod Buffers
pub mod Sending
pub mod State
pub mod Running
pub mod Whole
