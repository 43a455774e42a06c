-- of the input
pub mod NextCalls
pub mod JobsInTurn
pub mod Beginnings
-- of the run and its texts
pub mod LoneAnswers
pub mod TextsAgree
pub mod RunLaws
