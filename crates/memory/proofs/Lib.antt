pub mod Filled
pub mod Numbered
pub mod Room
pub mod Refuses
pub mod Performed
