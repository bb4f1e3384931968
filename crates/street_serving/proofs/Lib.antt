-- From chunk to chunk, and the end.
pub mod Turns
pub mod Closing
