mod ListFacts
mod FittingTrials
mod HeldSpans
mod OneRow
mod InnerSpans
mod TakenTrials
