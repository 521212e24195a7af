pub mod Decimals
pub mod Kept
pub mod Loops
pub mod Round
pub mod Shorter
pub mod Written
