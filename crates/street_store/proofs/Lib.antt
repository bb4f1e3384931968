-- A record of the store.
pub mod Keeping
