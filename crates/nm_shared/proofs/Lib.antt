pub mod Answered
pub mod Borrowed
pub mod OwnActs
pub mod Sending
pub mod Sizes
