-- The p elements are a field: laws of rings and a solver for them, that p is prime, and arithmetic on numbers.
pub mod Ring
pub mod Expression
pub mod Solver
pub mod Primality
pub mod Residues
pub mod Folding
pub mod Modular
pub mod Euclid
pub mod Fields
pub mod Elements
