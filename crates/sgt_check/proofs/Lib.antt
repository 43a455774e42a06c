pub mod Pieces
pub mod Counting
pub mod Empty
pub mod Sound
pub mod Whole
pub mod Graphs
pub mod Named
