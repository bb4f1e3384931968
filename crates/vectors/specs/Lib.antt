pub mod Vector
pub mod Claims
