pub mod Collect
pub mod Table
pub mod Claims
