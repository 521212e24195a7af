pub mod NoteLemmas
pub mod Numbers
pub mod OpeningLemmas
pub mod Sizes
pub mod TableLemmas
pub mod WorkedRows
