pub mod Ring
pub mod Order
pub mod Inverse
pub mod Steps
pub mod Exactly
