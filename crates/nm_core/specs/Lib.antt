pub mod Schedules
pub mod Pasts
pub mod Stops
pub mod Histories
pub mod Chains
pub mod Admission
