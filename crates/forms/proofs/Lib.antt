-- The form of broadcast lines: how a line's head and numbers are read, that both ways fit, and the longest line.
pub mod Forms
pub mod Scanning
pub mod Ranges
pub mod RoundTrip
pub mod Longest
pub mod Cases
pub mod Joining
pub mod Fronts
pub mod Told
