-- Interpolation at 0 by weights of rising numbers: over any field, then as the code makes them.
pub mod Sums
pub mod Pascal
pub mod Barycentric
pub mod Gaps
pub mod Alternating
pub mod Rows
pub mod Ascent
pub mod Pairs
pub mod Signs
pub mod Moves
pub mod Fours
pub mod Zero
