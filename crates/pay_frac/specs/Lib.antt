pub mod Number
pub mod Pair
pub mod Ratio
pub mod Reading
pub mod Spelling
pub mod Whole
