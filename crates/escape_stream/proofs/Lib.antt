mod StreamLemmas
mod ReadFormLemmas
pub mod PendingLemmas
pub mod FirstLemmas
mod ActionOffsets
mod PlainBytes
mod TextSegments
mod PairText
mod PrintedText
mod CommandText
mod WritableLemmas
pub mod PieceLemmas
pub mod AdvanceLemmas
pub mod SpellLemmas
mod SeparatePieces
pub mod SpokenLemmas
pub mod JoinLemmas
pub mod HandLemmas
pub mod StepLemmas
mod SequenceLemmas
mod PartLemmas
