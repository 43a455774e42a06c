pub mod Lines
pub mod Buffers
pub mod Intake
pub mod Ends
pub mod Spelled
pub mod Records
