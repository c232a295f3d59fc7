pub mod Matrix
pub mod Code
pub mod Search
pub mod Claims
