-- Bytes of a line, kept and read, and its answer.
pub mod Feeding
