pub mod Loops
pub mod Pasts
