pub mod AnswerTexts
pub mod Checks
pub mod Laws
