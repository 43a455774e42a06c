-- the input of a run of jobs, what its pool leaves, and the claims of its report
pub mod Banks
pub mod Crews
pub mod Reports
