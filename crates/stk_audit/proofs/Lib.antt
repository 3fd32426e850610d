pub mod Showing
pub mod Lines
pub mod Settled
pub mod Turns
pub mod Arms
pub mod Closing
