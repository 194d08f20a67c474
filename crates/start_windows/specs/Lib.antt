pub mod Ends
pub mod Window
pub mod Eligible
pub mod Prospects
pub mod Laws
