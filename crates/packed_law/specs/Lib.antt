pub mod Straight
pub mod Claims
pub mod Example
