pub mod Dataless
pub mod Walks
