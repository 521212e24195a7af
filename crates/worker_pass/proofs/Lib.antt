pub mod Loads
pub mod Falling
pub mod Ready
pub mod Rows
pub mod Works
pub mod Naming
pub mod States
pub mod Swept
