pub mod Canon
pub mod Fields
pub mod InOrder
pub mod Records
pub mod Accepted
pub mod Answers
pub mod Bounded
