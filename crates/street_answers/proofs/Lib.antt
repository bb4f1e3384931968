-- Answers laid into a part of bytes, and what is printed for a line.
pub mod Counting
pub mod Answering
pub mod Printing
pub mod Texts
