pub mod Writing
pub mod Table
pub mod Claims
pub mod Between
