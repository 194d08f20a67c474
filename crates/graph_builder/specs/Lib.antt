pub mod Fit
pub mod Filling
pub mod Standing
pub mod Writing
pub mod Laws
