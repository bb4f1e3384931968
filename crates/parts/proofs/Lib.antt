-- One post's part of a draw: how the loops write it, and laws for the crates above.
pub mod Turns
pub mod Weaving
pub mod Halves
pub mod Row
pub mod Parts
pub mod Laws
