-- What a line does: its order, its step letter by letter, that a session stays in range, and that a refused line changes nothing.
pub mod Fitting
pub mod Changing
pub mod Looking
