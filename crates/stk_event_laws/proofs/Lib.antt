pub mod Totals
pub mod ExpressionTotals
pub mod StatementTotals
pub mod Alike
pub mod EventLaws
pub mod Places
pub mod Saying
mod Examples
