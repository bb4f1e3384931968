pub mod Table
pub mod Texts
pub mod TwoPoints
pub mod Drawn
