pub mod Sizes
pub mod Plane
pub mod Cones
pub mod Balances
pub mod Lowest
pub mod Averages
pub mod Hulls
