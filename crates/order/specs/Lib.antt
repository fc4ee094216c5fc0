pub mod laws
pub mod Sort
pub mod Sorter
