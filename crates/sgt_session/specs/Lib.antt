-- the configuration of a name that is picked
pub mod Configurations
-- receipts, and what they say of a history
pub mod Receipts
pub mod Numbers
pub mod Accounts
-- what a session knows of the transactions that it started
pub mod Own
-- what `close` returns if it fails
pub mod Closing
