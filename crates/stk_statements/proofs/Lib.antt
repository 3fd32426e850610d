pub mod Turns
pub mod Counts
pub mod Declaring
pub mod Seen
pub mod StatementTurns
pub mod Arms
pub mod Definitions
