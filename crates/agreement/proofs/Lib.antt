-- Further values that lie on the polynomial through the first ones: what that means, and the two sums that decide it.
pub mod Agreeing
pub mod Meaning
pub mod Fitting
pub mod Dense
pub mod Scatter
pub mod Joined
