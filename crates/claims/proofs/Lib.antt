-- The theorem.
pub mod Claims
