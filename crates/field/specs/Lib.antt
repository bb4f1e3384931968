pub mod Modulus
pub mod Arithmetic
pub mod Primality
pub mod Algebra
pub mod Element
pub mod Claims
