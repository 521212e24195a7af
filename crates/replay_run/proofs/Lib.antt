pub mod Closed
pub mod Noting
