-- What every call on a session shares: its checks, how it ends, its rows, its law; and a new session.
pub mod Passed
pub mod Endings
pub mod RowLaws
pub mod Calls
pub mod Lawful
pub mod Tables
pub mod Kept
pub mod Placed
pub mod Sharing
pub mod Known
