pub mod Placed
mod Steps
