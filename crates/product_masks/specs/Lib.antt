pub mod Masks
pub mod Table
pub mod Claims
pub mod Places
