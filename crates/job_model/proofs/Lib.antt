pub mod NeighbourLemmas
pub mod WalkLemmas
pub mod WalkBack
pub mod EdgeLemmas
pub mod FirstEdgeFaults
pub mod FirstTableFaults
pub mod ReleaseLemmas
pub mod Pigeonhole
pub mod Undispatched
pub mod TableLemmas
pub mod Tables
pub mod UrgencyLaws
pub mod RankLaws
pub mod RankLemmas
pub mod Retimed
mod WorkedEdges
mod WorkedUrgency
