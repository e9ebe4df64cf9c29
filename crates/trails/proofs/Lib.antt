pub mod Records
pub mod ListChecks
pub mod RecordedWays
