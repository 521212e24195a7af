pub mod Games
pub mod Moments
pub mod Opening
pub mod Owners
pub mod Steps
pub mod Told
pub mod Words
