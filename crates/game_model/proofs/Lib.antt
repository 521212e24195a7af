pub mod Cases
pub mod Dilemma
pub mod Faults
pub mod Lists
pub mod Multiples
pub mod Profiles
pub mod WorkedRows
