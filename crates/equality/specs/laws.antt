pub mod Base
pub mod Proper
pub mod reading
pub mod tracing
pub mod census
pub mod emission
pub mod reordering
