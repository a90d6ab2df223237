pub mod Flat
pub mod Parts
