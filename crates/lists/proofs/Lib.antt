pub mod Elements
pub mod Orderings
pub mod Ranges
pub mod Splits
pub mod SortedBy
pub mod OneOrder
