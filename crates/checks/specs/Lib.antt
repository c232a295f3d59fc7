pub mod Binary
pub mod Bits
pub mod Check
pub mod Remainders
pub mod Steps
pub mod Width
pub mod Exactly
pub mod Small
