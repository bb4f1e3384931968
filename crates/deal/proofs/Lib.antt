-- A deal: its refusal from its code, then its law and its table.
pub mod Passed
pub mod Dealing
pub mod Theorems
pub mod Tables
