pub mod Ends
pub mod Naming
pub mod Rows
pub mod Steps
pub mod Sweeping
