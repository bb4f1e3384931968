-- Refusals: the first of several in order, the conditions that calls share, and how a table decides.
pub mod Checks
pub mod Pairs
pub mod Laws
pub mod Endings
pub mod Elements
pub mod Groups
pub mod Decided
pub mod Ranges
pub mod Figures
