pub mod Trains
pub mod Held
