pub mod Additions
pub mod Members
pub mod Filters
mod Worked
pub mod Bits
pub mod Subsets
