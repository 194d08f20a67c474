mod TimesUndone
mod EditedTables
mod Walks
mod EditLemmas
