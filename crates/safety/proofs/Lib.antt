mod Tests
mod Lists
mod Occupied
mod Needs
mod Stages
mod Ways
mod Carry
mod Ask
mod Clear
mod Back
mod Tick
mod Free
mod Notes
mod Shorter
mod Draws
mod Leaves
mod Comes
mod Reverses
mod Turns
mod Enters
mod Goes
mod Fitted
mod Sides
pub mod Steps
mod Always
mod Shows
mod LetsGo
pub mod Order
pub mod Guards
pub mod Theorem
pub mod Promised
