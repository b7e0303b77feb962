pub mod Entries
pub mod Begun
