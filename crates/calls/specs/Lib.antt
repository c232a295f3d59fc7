pub mod Refusal
pub mod Claims
pub mod Slices
