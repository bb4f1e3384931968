-- A post's part of a draw, at the start of a room.
pub mod Shares
