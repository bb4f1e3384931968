pub mod Draws
pub mod Outline
pub mod Calls
pub mod Packs
pub mod Sent
pub mod Acts
pub mod Callers
pub mod Orders
