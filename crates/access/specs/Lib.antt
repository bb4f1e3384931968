pub mod Access
pub mod Between
pub mod Figures
pub mod Table
pub mod Claims
pub mod Spelled
