pub mod Program
pub mod Between
