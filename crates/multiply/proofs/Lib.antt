-- A finish's second call: its refusal and the product's row from its code, then its law and its table.
pub mod Passed
pub mod Sums
pub mod Multiplying
pub mod Written
pub mod Theorems
pub mod Tables
pub mod Placed
