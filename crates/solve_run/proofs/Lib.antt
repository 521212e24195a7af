pub mod Asks
pub mod Completeness
pub mod Ends
pub mod InnerLemmas
pub mod Reporting
pub mod Second
pub mod Written
