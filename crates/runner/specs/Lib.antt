pub mod Decoding
pub mod Machines
pub mod TakeRuns
pub mod Panel
pub mod Budgets
pub mod AsBefore
pub mod Inner
