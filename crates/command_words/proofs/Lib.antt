pub mod JobWords
pub mod MetricParts
