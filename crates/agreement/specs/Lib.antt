pub mod Agreement
pub mod Sums
pub mod Claims
