pub mod Places
pub mod Rows
pub mod Starting
pub mod FunctionTables
