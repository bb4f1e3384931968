pub mod Draw
pub mod Between
