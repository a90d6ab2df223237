pub mod Counting
pub mod Sets
pub mod Moves
pub mod Room
pub mod Tables
pub mod Inner
