-- The map, the held record and the supply, what a memory means, and what storing steps make of it.
pub mod Areas
pub mod Held
pub mod Supply
pub mod Meaning
pub mod Steps
pub mod Laws
pub mod Lent
pub mod Scrambled
pub mod Lending
