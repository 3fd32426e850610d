pub mod Decimals
pub mod FirstWord
pub mod Distinctness
pub mod Clauses
pub mod WrittenWords
pub mod Steps
pub mod ReadBack
pub mod Fitting
mod Examples
