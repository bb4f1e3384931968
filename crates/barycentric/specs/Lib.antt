pub mod Nodes
pub mod Weights
