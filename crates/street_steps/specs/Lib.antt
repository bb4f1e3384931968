pub mod Stepping
pub mod Letters
pub mod Claims
