pub mod Kinds
pub mod Claims
