pub mod Edits
pub mod Bounded
pub mod Faults
pub mod Laws
