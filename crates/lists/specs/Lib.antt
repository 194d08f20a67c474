pub mod Numbers
pub mod Sorting
pub mod Zipped
