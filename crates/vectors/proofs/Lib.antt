-- Rows as linear images of vectors, one opening, and the claims.
pub mod Linear
pub mod Draws
pub mod Passing
pub mod HeldRows
pub mod Shares
pub mod Theorems
