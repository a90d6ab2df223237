-- What the proofs of several functions use. `pub` are those that another crate cites: the numbers of the table and its rows, an operation's record from the
-- bytes of its fields, a loop over the records of a file, and the worked take.
pub mod Operations
mod Numbers
pub mod Fields
pub mod Rows
mod Heads
pub mod Records
pub mod Readings
mod Strays
pub mod Walks
pub mod WholeFiles
pub mod RoundTrips
pub mod JudgedBefore
mod Rewriting
pub mod Examples
