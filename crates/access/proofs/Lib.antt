-- The `A` line: its reading, the set that it leaves, its table, and that it is read as it is written.
pub mod Walking
pub mod Reading
pub mod Listed
pub mod Calling
pub mod Figures
pub mod Tables
pub mod Theorems
pub mod Bytes
pub mod Rising
pub mod Longest
pub mod Spelled
