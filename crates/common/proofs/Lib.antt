-- What the proofs of several functions use.
pub mod Booleans
pub mod Refusals
pub mod Bytes
mod Loops
mod Copies
pub mod Numbers
