pub mod Vanishing
pub mod Between
pub mod Claims
