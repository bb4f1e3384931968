-- The street program's lines by the library's calls: letter by letter, the tables, start lines, and the whole program.
pub mod Heard
pub mod Loading
pub mod Keeping
pub mod Spelling
pub mod Lines
pub mod Access
pub mod Theorems
pub mod StartText
pub mod StartRead
pub mod Table
pub mod Starting
pub mod TwoLines
pub mod Program
pub mod Passing
