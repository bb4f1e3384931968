pub mod Bounds
pub mod Marks
pub mod Lengths
pub mod Row
pub mod Claims
pub mod Figures
