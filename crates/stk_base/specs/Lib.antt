pub mod Text
pub mod Lending
pub mod formers
pub mod Status
pub mod Causes
pub mod Streams
pub mod MemoryStreams
pub mod Limits
