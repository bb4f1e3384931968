-- Demand 2 at work: what the examples share, runs for which its premises hold, and runs that lack one.
pub mod Computing
pub mod Example
pub mod Nested
pub mod Fooled
pub mod Needed
pub mod Unheard
pub mod Contradicting
pub mod Relating
pub mod TwoPointed
pub mod ByTurns
