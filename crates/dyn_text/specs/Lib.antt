pub mod Assembled
pub mod BuildFaults
pub mod Canonical
pub mod Grammar
pub mod Single
pub mod Writable
