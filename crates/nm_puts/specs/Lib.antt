pub mod Leaves
pub mod Replaced
pub mod Swaps
pub mod Puts
pub mod Removing
