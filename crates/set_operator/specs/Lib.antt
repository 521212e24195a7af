pub mod Answers
pub mod Asked
pub mod Boxes
pub mod Dead
pub mod Lines
pub mod Prepared
pub mod Program
pub mod Search
