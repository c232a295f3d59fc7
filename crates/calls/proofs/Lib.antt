pub mod Given
pub mod Theorems
pub mod Laws
