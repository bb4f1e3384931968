pub mod Draw
pub mod Packs
pub mod Writers
