pub mod Between
pub mod Either
pub mod Pair
