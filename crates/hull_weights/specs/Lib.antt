pub mod Hull
pub mod Answer
pub mod Cone
pub mod LowestTerms
pub mod SameHull
