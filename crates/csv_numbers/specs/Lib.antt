pub mod Fields
pub mod Rows
pub mod RowsText
pub mod Laws
pub mod RowFaults
pub mod Streams
pub mod FlatRows
