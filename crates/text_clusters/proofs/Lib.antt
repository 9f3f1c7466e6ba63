pub mod IndependentLemmas
pub mod CharacterFacts
pub mod ControlLemmas
pub mod CutLemmas
pub mod LaneLemmas
pub mod PlainLemmas
pub mod TextLemmas
