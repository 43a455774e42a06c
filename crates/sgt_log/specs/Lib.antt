pub mod HistoryView
pub mod EntryParts
pub mod Spans
pub mod StoredEntries
pub mod PackedEntries
-- what an entry is to a caller of steps
pub mod StepKinds
