mod Rows
mod WorkedLevels
pub mod Widening
pub mod TrackedEnds
pub mod NextStates
pub mod ShapeTest
mod RootState
mod SomeNext
pub mod ListsOfEnds
mod Successors
mod Touching
mod Sets
mod TracksNext
pub mod CutEnds
