pub mod Canonical
pub mod Grammar
pub mod ReadGame
pub mod Worked
pub mod Wanted
pub mod Writable
