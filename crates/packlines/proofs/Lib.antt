-- A pack file's lines: one, all of them, and the whole file.
pub mod Spelt
pub mod Rising
pub mod Entire
pub mod Filed
