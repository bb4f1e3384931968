-- A linear call: its refusal from its code, then its law and its table.
pub mod Passed
pub mod Combining
pub mod Sharing
pub mod Theorems
pub mod Tables
