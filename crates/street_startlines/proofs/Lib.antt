-- Start lines: how they are answered, their table, and the longest line of the program.
pub mod Settings
pub mod Tables
pub mod Longest
