pub mod Promise
pub mod Promised
pub mod Safe
pub mod Sides
