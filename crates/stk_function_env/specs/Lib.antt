pub mod Infos
pub mod Settings
pub mod Changed
pub mod Listed
