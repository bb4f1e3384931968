pub mod Numbers
pub mod Starting
pub mod Between
