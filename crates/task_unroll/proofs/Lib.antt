mod Counts
mod UnrolledTable
mod UnrollFaults
mod TaskLists
mod OneTaskFault
