pub mod StartsAgree
pub mod Sorted
pub mod OrderLaws
pub mod LegalTest
pub mod Rows
pub mod OneRun
pub mod OrderMembers
pub mod Ends
mod SortedDispatches
