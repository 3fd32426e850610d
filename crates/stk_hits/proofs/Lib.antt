pub mod Numbering
pub mod Numbers
mod Noting
mod Passing
mod Answering
mod Growing
pub mod Starts
pub mod Agreeing
pub mod KeyKinds
pub mod Objects
pub mod Same
mod Tabling
