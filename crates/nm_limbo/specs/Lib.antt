pub mod Blocks
pub mod List
pub mod Ownership
pub mod Queue
