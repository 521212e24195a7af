pub mod Cramer
pub mod Extremes
pub mod Fits
pub mod Normal
pub mod Order
pub mod Poly
pub mod Quotients
pub mod Sums
