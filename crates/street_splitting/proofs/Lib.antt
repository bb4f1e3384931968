-- The walk to a line's end.
pub mod Segments
