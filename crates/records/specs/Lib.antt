pub mod Records
pub mod Table
pub mod Claims
pub mod Placed
