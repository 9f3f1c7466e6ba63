pub mod BetweenLemmas
pub mod ChangeLemmas
pub mod LentSteps
pub mod NumberLemmas
pub mod PlacedLemmas
pub mod WrapLemmas
pub mod StorageLemmas
