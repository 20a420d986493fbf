-- AES-128, CCM and GCM by their standards, what a packet cipher is, its laws, and that both modes keep them.
pub mod Bytes
pub mod Field
pub mod Aes
pub mod Columns
pub mod Blocks
pub mod Cipher
pub mod Sealing
pub mod Sessions
pub mod Ccm
pub mod Ghash
pub mod Horner
pub mod Gcm
pub mod Schedules
pub mod Words
pub mod Ccms
pub mod Schemes
pub mod Gcms
