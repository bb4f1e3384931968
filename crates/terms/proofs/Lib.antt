-- The terms of a relation: placed one after another, and handed on.
pub mod Placing
pub mod Ordered
