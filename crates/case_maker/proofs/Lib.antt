pub mod Drawn
pub mod Limits
pub mod Listed
