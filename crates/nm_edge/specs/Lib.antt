pub mod EdgeWords
pub mod Edges
pub mod Keys
pub mod Layouts
pub mod Ranges
pub mod Words
