pub mod Reached
pub mod HeldLedgers
pub mod Worked
pub mod Meeting
pub mod Joining
pub mod FewPlaces
pub mod ChainLemmas
