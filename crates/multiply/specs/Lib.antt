pub mod Multiply
pub mod Table
pub mod Claims
pub mod Places
