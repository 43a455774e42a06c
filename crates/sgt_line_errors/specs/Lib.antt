pub mod FaultyLines
pub mod Refusals
