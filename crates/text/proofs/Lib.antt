pub mod Ranges
pub mod Leading
pub mod Capping
pub mod Pairs
pub mod Decoding
pub mod Once
pub mod Taking
