-- The two loads: their refusals from their code, then their law, their tables, and where the packs go.
pub mod Passed
pub mod Loading
pub mod Triples
pub mod Theorems
pub mod Tables
pub mod Kept
pub mod Placed
