pub mod Declared
pub mod Rows
pub mod UnitForms
pub mod Placing
pub mod DeclarationHeads
