mod Splitting
mod Ended
mod Large
mod Audited
