pub mod Number
pub mod Between
pub mod Claims
