-- Document 02, (v) and (viii): a relation's two calls by the single calls, one product term after the other.
pub mod Lows
pub mod Step
pub mod Walk
pub mod Masking
pub mod Words
