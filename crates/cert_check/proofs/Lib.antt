mod JobLines
mod LineTakings
mod OneEnds
