pub mod Octet
pub mod Laws
