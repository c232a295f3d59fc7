pub mod Runs
pub mod Demand
pub mod Claims
pub mod Carried
pub mod Packets
pub mod Hearing
pub mod OverPackets
pub mod Missing
