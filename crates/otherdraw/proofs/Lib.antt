-- The draw behind another secret: the call's tests and writers, then its table and its examples.
pub mod Asking
pub mod Few
pub mod Passed
pub mod Writing
pub mod Keeping
pub mod Moving
pub mod Ends
pub mod Reckoning
pub mod Theorems
