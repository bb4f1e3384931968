-- Broadcast lines, written and read: refusals, that both ways fit, demand 1 and the table.
pub mod Measuring
pub mod Refusing
pub mod Answers
pub mod Sending
pub mod Theorems
pub mod Tables
