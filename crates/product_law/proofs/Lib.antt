-- Document 02, (viii): collect and multiply leave what document 01's finish leaves.
pub mod Pair
