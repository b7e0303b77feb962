pub mod Cursor
pub mod Spelled
