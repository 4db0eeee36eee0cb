pub mod EachRun
pub mod Worked
