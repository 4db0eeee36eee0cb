pub mod Resting
pub mod Tries
pub mod Scans
pub mod Watches
pub mod Collecting
pub mod Reading
pub mod Handing
