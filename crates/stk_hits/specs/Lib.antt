pub mod InputMaps
pub mod ConditionIds
pub mod Tables
pub mod Recording
pub mod Queries
pub mod Subjects
pub mod PathSubjects
pub mod PathTables
