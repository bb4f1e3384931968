-- A finish's first call: its refusal and its numbers from its code, then its law, its table, and what it does not read.
pub mod Passed
pub mod Finishing
pub mod Opens
pub mod Theorems
pub mod Tables
pub mod Unread
