pub mod Refusal
pub mod Numbers
pub mod Conditions
pub mod Claims
