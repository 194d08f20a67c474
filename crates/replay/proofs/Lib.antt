mod Counted
mod First
mod InHeaps
mod Lacking
mod NextTurn
mod Queued
mod UnderwayLemmas
mod Unblocked
