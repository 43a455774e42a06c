pub mod Reports
pub mod ReportText
pub mod Checks
pub mod GraphText
pub mod Graphs
pub mod Timelines
pub mod Mentions
