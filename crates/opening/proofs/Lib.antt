-- An opening: its checks from its code, then its law, its table, and what it does not read.
pub mod Passed
pub mod Opens
pub mod Theorems
pub mod Tables
pub mod Unread
pub mod Long
