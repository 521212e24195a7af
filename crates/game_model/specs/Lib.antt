pub mod Game
pub mod Parts
pub mod SelfGeneration
pub mod Worked
