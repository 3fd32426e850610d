mod Wrapped
mod Ascending
mod ReadOne
pub mod ReadUnits
mod Looking
mod Known
mod Listed
mod Tabled
mod Answered
mod Ran
mod Told
mod Clauses
pub mod Soundness
mod Taken
mod Kept
mod Named
mod Handed
mod AtHand
mod Audited
