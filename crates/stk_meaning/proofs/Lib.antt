pub mod Told
mod FunctionExamples
mod ExpressionExamples
mod StatementExamples
mod ExecutionExamples
mod ListExamples
mod MapExamples
pub mod HitLemmas
mod Examples
