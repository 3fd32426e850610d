pub mod Alone
pub mod Arms
pub mod Ending
pub mod LeavingLaws
pub mod Views
