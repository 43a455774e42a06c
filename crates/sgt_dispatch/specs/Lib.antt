pub mod Subsequences
pub mod Logs
pub mod Accounts
pub mod Fifo
pub mod Ends
