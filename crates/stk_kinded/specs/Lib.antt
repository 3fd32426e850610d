pub mod Kinds
pub mod Keys
pub mod Kinded
pub mod KindedStatements
