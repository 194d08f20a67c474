pub mod Levels
pub mod Spans
pub mod Budget
pub mod Graph
pub mod Lines
pub mod CertificateText
