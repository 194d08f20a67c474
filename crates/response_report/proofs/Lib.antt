mod TaskLemmas
mod ZippedRows
