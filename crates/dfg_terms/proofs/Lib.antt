pub mod Spelled
pub mod Scopes
