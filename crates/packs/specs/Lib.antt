pub mod Packs
pub mod Between
