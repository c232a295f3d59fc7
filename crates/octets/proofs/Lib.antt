pub mod High
pub mod Laws
