pub mod Averages
pub mod Depths
pub mod Outcomes
pub mod Periods
pub mod Plays
pub mod Turns
pub mod Values
pub mod Worths
