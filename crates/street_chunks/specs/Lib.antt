pub mod Sizes
pub mod Stopping
pub mod Between
