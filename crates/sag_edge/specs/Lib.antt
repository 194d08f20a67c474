pub mod Causes
pub mod Contents
pub mod Reading
pub mod Writing
