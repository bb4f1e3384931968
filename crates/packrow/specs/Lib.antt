pub mod Numbers
pub mod Between
