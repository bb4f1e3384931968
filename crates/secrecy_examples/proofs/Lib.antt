-- Demand 3 at work: what a group sees, by computing; premises, by a search; the examples, and those of (xiii).
pub mod Computing
pub mod Found
pub mod Kept
pub mod Premised
pub mod Examples
pub mod Lying
