pub mod Child
pub mod Entered
pub mod Part
pub mod Parts
pub mod Made
pub mod Values
pub mod Batch
