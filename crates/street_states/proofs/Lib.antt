-- What calls on the session's rows in the store share; and the first state.
pub mod Calling
pub mod Building
