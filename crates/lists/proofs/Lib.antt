-- Lists that a loop fills or copies, and lists with a part put in: for every crate that writes.
pub mod Filled
pub mod Copied
pub mod Parts
