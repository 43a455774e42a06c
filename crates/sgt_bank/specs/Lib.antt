-- what an input requests
pub mod Jobs
pub mod Inputs
-- how far its lines are read
pub mod Taking
-- the texts that a run can write
pub mod OutcomeText
pub mod Reports
pub mod SerialText
pub mod OutcomeJson
-- what a run is, and what it guarantees
pub mod Banks
pub mod Outputs
