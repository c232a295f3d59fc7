pub mod Answer
pub mod Header
pub mod Claims
