pub mod Opened
pub mod Parts
pub mod Scripts
pub mod RunLaws
pub mod Answering
pub mod Beginnings
pub mod Outcomes
