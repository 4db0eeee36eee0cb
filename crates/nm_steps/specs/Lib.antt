pub mod Rules
pub mod Steps
pub mod Openings
pub mod Ties
pub mod Rows
pub mod Packing
pub mod Told
pub mod Values
