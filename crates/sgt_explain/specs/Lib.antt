pub mod Firsts
pub mod Places
pub mod Indexes
pub mod Edges
pub mod CycleEdges
pub mod Sources
pub mod Calls
pub mod Refusals
