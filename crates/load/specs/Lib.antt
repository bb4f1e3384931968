pub mod Load
pub mod Table
pub mod Claims
pub mod Places
pub mod Between
