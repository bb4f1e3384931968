-- All posts' packs of a row and of a triple: how the loops write them, and laws for the crates above.
pub mod Passed
pub mod Posts
pub mod Rest
pub mod Factors
pub mod Laws
