pub mod LineLemmas
pub mod PlayLemmas
pub mod ThreadLemmas
pub mod WorkerLemmas
pub mod CallLemmas
pub mod EndingLemmas
pub mod CrewLemmas
