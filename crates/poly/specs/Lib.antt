pub mod Polynomial
pub mod Interpolation
pub mod Counting
pub mod Claims
pub mod Between
pub mod Counted
