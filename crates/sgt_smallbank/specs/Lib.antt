pub mod Texts
pub mod Tables
pub mod Arithmetic
pub mod Accounts
pub mod Joins
pub mod AccountRows
pub mod Replays
