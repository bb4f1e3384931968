-- Polynomials: the code's loops, then the laws over any field, and the claims.
pub mod Bounds
pub mod Turns
pub mod Halves
pub mod Lists
pub mod Coefficients
pub mod Roots
pub mod Lagrange
pub mod Numbers
pub mod Theorems
pub mod Counts
