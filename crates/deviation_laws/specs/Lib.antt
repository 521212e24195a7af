pub mod Fractions
pub mod Gains
pub mod Lists
pub mod Plans
