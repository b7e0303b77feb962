pub mod Memory
pub mod Entry
