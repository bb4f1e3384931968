pub mod Station
pub mod Run
pub mod Fees
pub mod Contradicted
pub mod TwoPoints
pub mod Turns
