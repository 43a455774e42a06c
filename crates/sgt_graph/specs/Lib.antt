pub mod Graphs
pub mod Verdicts
pub mod PairGraphs
pub mod Closures
pub mod Relations
pub mod BitGraphs
