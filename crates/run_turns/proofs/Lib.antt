pub mod Left
pub mod Part
mod Decided
pub mod Available
mod Turns
