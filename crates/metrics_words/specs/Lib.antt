pub mod MetricsCode
pub mod Laws
