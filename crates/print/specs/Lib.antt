pub mod Buffer
pub mod Text
