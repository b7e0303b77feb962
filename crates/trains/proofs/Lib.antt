pub mod Bodies
pub mod Trains
pub mod Tracks
