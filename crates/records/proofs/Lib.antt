-- Blocks put into a record and taken out: refusals, the record around them, the table, and what an opening takes.
pub mod Places
pub mod Written
pub mod Sent
pub mod Tables
pub mod Theorems
pub mod Placed
