pub mod Blocks
pub mod Between
pub mod Claims
