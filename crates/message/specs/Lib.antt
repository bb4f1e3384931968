pub mod Message
pub mod Table
pub mod Claims
pub mod Between
