pub mod Words
pub mod FirstWord
pub mod Numbers
pub mod Entries
pub mod Distinct
pub mod Dimacs
pub mod Lrat
pub mod Laws
