pub mod Masks
pub mod NumberLists
pub mod Places
pub mod WholeLists
