pub mod Built
pub mod Moved
pub mod RightFiles
pub mod RightTexts
pub mod Stages
pub mod Texts
