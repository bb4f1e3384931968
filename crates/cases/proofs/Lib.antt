-- Room for what a case prints.
pub mod Room
