pub mod BlockLemmas
pub mod AddLemmas
pub mod ShowLemmas
pub mod MoveLemmas
pub mod CopyLemmas
pub mod LedLemmas
pub mod DisplayLemmas
