pub mod Log
pub mod LogSteps
pub mod LogView
pub mod TextPoolView
