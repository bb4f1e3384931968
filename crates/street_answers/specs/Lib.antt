pub mod Text
pub mod Claims
pub mod Between
