pub mod Ready
pub mod Order
pub mod Dispatches
pub mod Legal
pub mod Laws
pub mod Guarantees
