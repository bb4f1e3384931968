pub mod Other
pub mod Between
pub mod Table
pub mod Claims
pub mod Examples
