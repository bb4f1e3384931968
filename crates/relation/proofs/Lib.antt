-- Relations: loops over terms, one term's tests, the order of the refusals, and the law of both calls.
pub mod Loops
pub mod Sorts
pub mod Sizes
pub mod Found
pub mod Naming
pub mod Passing
pub mod Numbering
pub mod Ranks
pub mod Tables
pub mod Theorems
pub mod Passed
pub mod Meant
pub mod Placed
