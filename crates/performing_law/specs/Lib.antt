pub mod Claims
pub mod Records
pub mod Lines
pub mod Starting
pub mod TwoLines
pub mod Program
pub mod Sets
pub mod Passing
