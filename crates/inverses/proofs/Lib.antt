-- The rule of the table of inverses, entry by entry.
pub mod Entries
