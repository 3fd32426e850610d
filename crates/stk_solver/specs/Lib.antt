pub mod Marking
pub mod Guides
pub mod Learnt
pub mod Inside
pub mod Searching
pub mod Jumping
pub mod Answers
