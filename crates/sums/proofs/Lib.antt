-- Loops that write rows, and a sum of rows with its fee.
pub mod Writers
pub mod Within
pub mod Summed
