pub mod Broken
pub mod Scene
