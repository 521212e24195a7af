pub mod Joined
pub mod Numbers
pub mod Pieces
pub mod Places
pub mod Stuck
