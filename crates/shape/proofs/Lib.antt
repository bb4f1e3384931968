-- The lengths of a shape: that none wraps, and their figures.
pub mod Small
pub mod Figures
pub mod Figured
