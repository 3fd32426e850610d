pub mod Drawing
pub mod Forms
pub mod Generated
