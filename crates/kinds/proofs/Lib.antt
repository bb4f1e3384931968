-- The tests of kinds, one row's and those of all rows, and how much is drawn.
pub mod Kinded
pub mod Searched
