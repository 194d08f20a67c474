mod ByRelease
mod ByUrgency
mod Caps
mod Collecting
mod Fronts
mod Held
pub mod EndLists
mod InOrder
mod Passing
mod Rows
mod Shuffles
pub mod SomeEligible
mod Sweep
mod Within
pub mod WindowFacts
