pub mod Chains
pub mod Arranged
pub mod Insertion
pub mod Links
