mod TrialsFit
mod KeptEnds
mod WorkedTrials
