pub mod ReportRows
pub mod ReportText
pub mod Laws
