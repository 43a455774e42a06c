pub mod Filed
pub mod Merging
pub mod Newest
pub mod Counted
pub mod Owns
pub mod Crossing
