pub mod Pieces
pub mod Reading
pub mod ReplayText
pub mod ReportText
pub mod Rules
