pub mod State
pub mod Tracks
pub mod Shape
pub mod Next
pub mod Widen
pub mod Offers
pub mod Group
pub mod Laws
