pub mod Scratches
pub mod Updates
pub mod Work
pub mod Clearings
pub mod Sweeps
