-- What handles own, and what calls on them return and leave.
pub mod Places
pub mod Handles
pub mod Outcomes
pub mod Owners
pub mod Sets
pub mod Workers
pub mod Notes
pub mod Lookups
pub mod NextKeys
pub mod Scanning
pub mod Reports
pub mod Maps
pub mod MapPuts
pub mod MapRemoves
pub mod MapReports
pub mod MapEntries
pub mod MapScanning
