pub mod Linear
pub mod Table
pub mod Claims
pub mod Between
