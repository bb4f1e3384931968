-- Numerals, both ways; eight digits at once; and how the code reads and writes them.
pub mod Digits
pub mod Sizes
pub mod Numerals
pub mod Positions
pub mod EightDigits
pub mod Eights
pub mod FromEight
pub mod Scanning
pub mod Spelling
pub mod SideBySide
pub mod Joining
pub mod Written
