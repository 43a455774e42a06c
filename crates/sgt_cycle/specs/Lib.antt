pub mod Links
pub mod Path
pub mod Search
pub mod Indices
