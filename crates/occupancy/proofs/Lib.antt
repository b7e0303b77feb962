pub mod Sweeping
pub mod Lasting
