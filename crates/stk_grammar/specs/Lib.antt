pub mod Lexemes
pub mod Expressions
pub mod Reading
pub mod Stopped
pub mod Declarations
pub mod DeclarationReading
pub mod StatementReading
pub mod Units
