pub mod Core
pub mod Frame
pub mod Replays
pub mod Room
pub mod Runs
pub mod Schedules
pub mod State
