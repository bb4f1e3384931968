-- The checks of a relation's finish, joined as its code asks them.
pub mod Ends
pub mod Pairs
pub mod Finishing
