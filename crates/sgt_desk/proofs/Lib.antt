pub mod Waking
pub mod Reasons
pub mod Starts
pub mod Entries
pub mod Attempts
pub mod Runs
pub mod Endings
pub mod Turns
