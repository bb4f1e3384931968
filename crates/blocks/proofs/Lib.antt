-- A post's part of a record, as the code takes it; and what of a record is looked at.
pub mod Blocks
pub mod Reading
