-- The two masks of a product, opened in a lent room.
pub mod Opens
