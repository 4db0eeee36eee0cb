-- Lemmas on handles and what they own.
pub mod Places
pub mod Swaps
pub mod Holds
pub mod Items
pub mod Leaves
pub mod Owners
pub mod SentWords
pub mod Sending
