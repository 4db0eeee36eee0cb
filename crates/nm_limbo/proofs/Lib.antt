pub mod Blocks
pub mod Crosses
pub mod Lists
pub mod Memory
pub mod Queues
pub mod Sharing
