pub mod Lines
pub mod Forms
pub mod Between
pub mod Claims
pub mod Ten
