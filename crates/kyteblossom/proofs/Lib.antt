pub mod Numbers
pub mod Theorems
pub mod Laws
pub mod Answering
pub mod Recorded
pub mod Framed
