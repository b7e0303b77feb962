pub mod Walk
pub mod Turned
