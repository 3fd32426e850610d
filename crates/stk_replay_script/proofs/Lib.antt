pub mod Prefixes
pub mod Numerals
pub mod FieldTexts
pub mod CellTexts
pub mod StartTexts
pub mod ScriptTexts
