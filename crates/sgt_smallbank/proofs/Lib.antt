pub mod AnyOrder
pub mod Values
pub mod Forks
pub mod Flawless
pub mod Banks
pub mod Faults
pub mod JoinedTables
pub mod Replays
