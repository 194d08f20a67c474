pub mod TaskRows
pub mod Tasks
pub mod TaskFaults
pub mod Unrolled
pub mod UnrollFaults
pub mod Laws
