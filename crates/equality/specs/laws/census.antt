pub mod Standing
pub mod Kind
pub mod Marks
pub mod View
pub mod Equal
pub mod Room
pub mod Listed
