pub mod FirstBreak
pub mod Entries
pub mod Orders
pub mod Firsts
pub mod Waits
pub mod Breaks
pub mod Laws
pub mod AnswerTexts
