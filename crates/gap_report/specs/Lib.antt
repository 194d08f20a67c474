pub mod InnerBounds
pub mod InnerEnds
pub mod GapRows
pub mod GapText
pub mod Trials
pub mod Laws
