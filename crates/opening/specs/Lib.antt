pub mod Walking
pub mod Opening
pub mod Table
pub mod Claims
pub mod Long
