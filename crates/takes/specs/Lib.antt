pub mod Operations
pub mod Records
pub mod Reading
pub mod Files
pub mod JudgedBefore
pub mod Writing
pub mod RoundTrips
pub mod Inner
