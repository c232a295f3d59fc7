pub mod Recorded
pub mod Layout
pub mod Trailer
pub mod Call
pub mod Walk
pub mod Form
pub mod Claims
