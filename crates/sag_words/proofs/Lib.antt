mod AppLemmas
mod OneCommand
mod WordLemmas
mod WorkedAnalyse
mod WorkedGap
mod WorkedPlaces
mod WorkedReplay
mod WorkedReport
