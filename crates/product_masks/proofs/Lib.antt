-- Masks: their refusal and the two polynomials from their code, then their law and their table.
pub mod Passed
pub mod Joining
pub mod Masking
pub mod Differences
pub mod Theorems
pub mod Tables
pub mod Placed
