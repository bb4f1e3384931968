pub mod Order
pub mod Writing
pub mod Reading
pub mod Table
pub mod Claims
