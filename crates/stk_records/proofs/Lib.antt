pub mod Decimals
pub mod Names
pub mod Forms
pub mod Wholes
pub mod Joined
pub mod Floats
pub mod Budgets
pub mod Written
