-- A post's part of a record, and the posts that are accepted: what the code finds of them is what the definitions say.
pub mod Parts
pub mod Weights
pub mod Marks
pub mod Accepted
pub mod Same
pub mod Every
pub mod Told
