pub mod Edit
pub mod Order
pub mod Links
pub mod Rework
pub mod Remake
pub mod Bound
pub mod Spend
pub mod Laws
