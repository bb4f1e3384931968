-- The dealers' state: lines placed, turns, that a waiting line is taken within eight counted turns, and demand 1.
pub mod Positions
pub mod Placing
pub mod Choosing
pub mod Reading
pub mod Turns
pub mod Turning
pub mod Kept
pub mod Fair
pub mod Example
pub mod Laws
pub mod Serving
pub mod Figures
