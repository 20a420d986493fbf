pub mod Places
pub mod Packs
