pub mod Notes
pub mod Entry
