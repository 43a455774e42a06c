pub mod Textbook
pub mod Laws
pub mod NeededAborts
