-- What a relation's finish writes, step by step.
pub mod Summing
