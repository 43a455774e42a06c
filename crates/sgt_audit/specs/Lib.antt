-- what the outcomes of jobs say of a history: each alone, and all together
pub mod Spans
pub mod Outcomes
pub mod AllOutcomes
-- what a history says of each transaction, in one table
pub mod Lives
-- how many transactions a reply starts and ends
pub mod LiveCount
