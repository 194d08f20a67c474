pub mod Jobs
pub mod JobsText
pub mod Laws
