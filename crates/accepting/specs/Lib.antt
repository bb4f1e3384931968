pub mod Accepting
pub mod Between
pub mod Claims
