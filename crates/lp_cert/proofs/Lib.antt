pub mod Boxes
pub mod Duality
pub mod Steps
