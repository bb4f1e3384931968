-- The call that writes a pack file: its refusals, its rooms, and demand 1.
pub mod Asking
pub mod Rooms
pub mod Theorems
