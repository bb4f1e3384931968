-- Fields of a line: written, then read; and that both ways fit.
pub mod Overwriting
pub mod Fronting
pub mod Laying
pub mod Passing
pub mod Rooming
pub mod Single
pub mod Reading
pub mod Lined
