pub mod Numeral
pub mod Between
pub mod Lanes
pub mod Claims
