pub mod DroppedLemmas
pub mod DueLemmas
pub mod LogLemmas
pub mod StoredLemmas
