pub mod Stepping
pub mod Owned
pub mod Held
