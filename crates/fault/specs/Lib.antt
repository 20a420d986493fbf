-- What each refusal says, and checks in their order.
pub mod Refusals
pub mod Checks
