pub mod Limits
pub mod Between
