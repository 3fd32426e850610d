pub mod Beginning
pub mod Choices
pub mod Depths
pub mod EachLoops
pub mod Flowing
pub mod InitialViews
pub mod Saving
pub mod StatementViews
