-- A relation's masks, one product term after the other: the session, the lent list, the refusal.
pub mod Remembering
pub mod Parts
pub mod Masking
