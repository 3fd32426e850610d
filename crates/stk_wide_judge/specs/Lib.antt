pub mod Wide
pub mod Answers
pub mod Starts
pub mod Guesses
pub mod Rounds
