pub mod Placements
pub mod OfferSteps
pub mod GraphLists
mod HeldGraphs
mod SpanLines
mod Built
