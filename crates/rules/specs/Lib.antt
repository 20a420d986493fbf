-- The board as a state machine, the three promises on whole runs, and laws, runs and examples that show what they say.
pub mod Memory
pub mod Packets
pub mod Receiver
pub mod Commands
pub mod Board
pub mod Words
pub mod Promises
pub mod Arrival
pub mod Laws
pub mod Instances
pub mod Examples
