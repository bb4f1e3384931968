pub mod Sizes
pub mod Serving
pub mod Between
