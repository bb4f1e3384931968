-- A line read into its order, letter by letter.
pub mod Hearing
pub mod Heeding
pub mod Ordering
