-- The contents of packets, and what packing gives.
pub mod Packets
pub mod Packing
