-- Products of 1 − z/x: their values, and the loops that make them.
pub mod Vanish
pub mod Folded
pub mod Factors
pub mod Distinct
pub mod Turns
pub mod Theorems
