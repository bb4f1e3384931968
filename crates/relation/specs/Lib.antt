pub mod Tests
pub mod Masks
pub mod Finish
pub mod Order
pub mod Table
pub mod Claims
pub mod Meaning
pub mod Places
