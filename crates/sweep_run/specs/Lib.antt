pub mod Runs
pub mod Sweeper
pub mod Sweeps
