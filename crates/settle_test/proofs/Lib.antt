pub mod Choices
pub mod Places
pub mod Settling
pub mod Tested
