pub mod Blocks
pub mod Tables
pub mod Sets
pub mod Pointers
pub mod Orders
pub mod Placing
pub mod Inner
