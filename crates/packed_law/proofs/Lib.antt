-- A pack file fed to the street program against packs loaded straight: line by line, then the whole.
pub mod Parts
pub mod Loading
pub mod Ahead
pub mod Bytes
pub mod Taken
pub mod Feeding
pub mod Theorems
pub mod Reckoning
