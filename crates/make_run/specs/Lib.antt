pub mod Made
pub mod Opening
pub mod Summary
