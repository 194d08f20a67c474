pub mod Trials
pub mod Steps
pub mod GapMeaning
pub mod Laws
