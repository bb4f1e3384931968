-- One chunk, and what it hands to standard output.
pub mod Feeding
