pub mod Back
pub mod Places
