pub mod OwnActs
pub mod Sharing
pub mod Sizes
pub mod SharedMaps
