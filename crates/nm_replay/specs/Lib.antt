pub mod LastState
pub mod Output
