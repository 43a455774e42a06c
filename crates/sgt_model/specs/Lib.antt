-- ---- Part 1, what a reader must trust: the definitions that `Legal`, `Headline` and `CallersRunAlone` rest on, and no others.
-- These 24 files say what the headline means.
-- numbers and keys
pub mod Numbers
pub mod Contents
-- procedures: what a run does, what the text says and what it means
pub mod Runs
pub mod Traces
pub mod Syntax
pub mod Ways
pub mod Meaning
-- histories: accesses, fates, values, who read from whom, conflicts
pub mod Paths
pub mod Accesses
pub mod Fates
pub mod Values
pub mod ReadFrom
pub mod Falls
pub mod Pairs
pub mod Closes
-- which replies are legal
pub mod Configurations
pub mod Progress
pub mod StartReply
pub mod Legality
-- the headline
pub mod Replay
pub mod Aborts
pub mod CommitOrder
pub mod Headline
-- the headline for any programs of the callers
pub mod Callers
-- ---- Part 2, terms of single contracts: what types and functions say of themselves beside part 1.
pub mod Bounds
pub mod Databases
pub mod ProcedureTexts
pub mod Codes
pub mod Histories
pub mod Questions
pub mod ShortReplies
-- ---- Part 3, laws: what is proved from the definitions of part 1. None has to be trusted. The plain meaning of the language
-- (`Executions`) is here, because a law connects it to runs.
pub mod Admissions
pub mod Laws
pub mod OneReply
pub mod Continuations
pub mod ReplySizes
pub mod StoredValues
pub mod Executions
pub mod ExecutedReplay
-- ---- Part 4, the scheduler's state, which it stores in place of the history, what its calls do to it, and why that is
-- legal. It is proved from the definitions of part 1, so none of it has to be trusted.
-- the state, and the one that belongs to a history
pub mod Left
pub mod AccessList
pub mod Chains
pub mod ChainOrder
pub mod LiveLeft
pub mod State
pub mod StateAfter
-- what a scheduler decides and does, from its state
pub mod Blocks
pub mod Found
pub mod FallsIn
pub mod Changes
pub mod CallEffects
-- why that is legal
pub mod Soundness
pub mod NewState
pub mod Sameness
pub mod Refinement
