pub mod Trees
pub mod Operations
pub mod Spelling
pub mod Readings
pub mod Rows
pub mod Refusals
pub mod Laws
