pub mod Members
pub mod Links
pub mod Searched
pub mod Walked
pub mod Bits
pub mod RowPaths
