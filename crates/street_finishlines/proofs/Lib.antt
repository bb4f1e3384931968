-- The calls of `X` and `F`, in the store.
pub mod Masking
pub mod Finishing
