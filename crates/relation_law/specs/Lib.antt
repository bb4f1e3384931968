pub mod Pairs
pub mod Singles
pub mod Claims
pub mod Words
