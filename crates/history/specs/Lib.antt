pub mod Ledgers
pub mod CallLists
pub mod Histories
pub mod Demand3
pub mod Replaying
pub mod Noninterference
