pub mod OneRow
pub mod Claims
pub mod Laws
pub mod Example
