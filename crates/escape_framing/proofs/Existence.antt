-- That each stream has a cut: the plain reading gives one.
pub mod Utf8Lemmas
pub mod OutcomeLemmas
pub mod SevenBitLemmas
pub mod StepLemmas
pub mod SequenceLemmas
pub mod CutLemmas
