pub mod State
pub mod Says
