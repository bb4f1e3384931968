-- Which letters change the session, and what stays of the state where a line is settled.
pub mod Letters
pub mod Settling
pub mod Room
pub mod Ranges
pub mod Cutting
pub mod Keeping
