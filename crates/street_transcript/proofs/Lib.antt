-- The whole program, chunk by chunk: the loop over a chunk, the line kept, and the answers.
pub mod Chunks
pub mod Laying
pub mod Looping
pub mod Taking
pub mod Turning
pub mod Whole
pub mod Admitting
