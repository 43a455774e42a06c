pub mod Words
pub mod Spellings
pub mod Readings
pub mod Numbering
pub mod Transcripts
