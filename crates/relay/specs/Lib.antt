pub mod CommandLine
pub mod Faults
pub mod Lent
pub mod Live
pub mod Output
pub mod Reports
pub mod Settings
