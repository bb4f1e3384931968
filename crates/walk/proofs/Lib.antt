-- Both walks over the posts, and what they bring out.
pub mod Walks
pub mod Behind
pub mod Upward
pub mod Settles
pub mod Fronts
