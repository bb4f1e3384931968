-- The numbers of a line and the settings of a start line: each way in which reading them ends.
pub mod Starts
pub mod Scanned
pub mod Written
