-- Document 01's figures and those of two check points, by computing.
pub mod Table
pub mod Texts
pub mod TwoPoints
pub mod Drawn
