-- An opening message: its refusal from its code, then its law and its table.
pub mod Passed
pub mod Messages
pub mod Theorems
pub mod Tables
