-- A relation's finish: what it opens, what it leaves as it was, and what it does not read.
pub mod Kept
pub mod Opens
pub mod Others
pub mod Unread
pub mod Summing
