pub mod Deal
pub mod Between
pub mod Table
pub mod Claims
