-- the structs of C, and what their fields say
pub mod ReplyStructs
pub mod KeptFields
pub mod ReplyReadings
pub mod EventStructs
pub mod AccessStructs
pub mod FaultStructs
pub mod BufferTexts
-- the handle
pub mod Handles
pub mod SlotOwnership
-- what the calls do
pub mod Asked
pub mod Entries
pub mod ReplayedCalls
pub mod Writes
pub mod Limits
pub mod Calls
pub mod Rows
pub mod Runs
pub mod ManyRuns
pub mod Reruns
pub mod Openings
pub mod BareOpenings
pub mod Cuts
pub mod Puts
pub mod ProcedureTexts
-- turns of a desk
pub mod DeskStructs
pub mod DeskTurns
pub mod SelfWaits
pub mod Decisions
