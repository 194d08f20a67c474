pub mod FaultTexts
pub mod Pieces
