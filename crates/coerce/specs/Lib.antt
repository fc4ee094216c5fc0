pub mod Joint
pub mod Census
pub mod laws
