pub mod Cans
pub mod Steps
pub mod Runs
