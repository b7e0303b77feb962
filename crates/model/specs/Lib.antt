pub mod World
pub mod Held
pub mod Steps
pub mod Ran
pub mod Stations
