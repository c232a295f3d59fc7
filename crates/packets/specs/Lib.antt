pub mod Flag
pub mod Header
pub mod Packet
pub mod Claims
