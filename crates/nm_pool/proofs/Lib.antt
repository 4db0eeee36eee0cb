pub mod Allowing
pub mod AnyOrder
pub mod PrivateSlots
pub mod Looks
pub mod Steps
