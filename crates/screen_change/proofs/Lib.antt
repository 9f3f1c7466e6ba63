pub mod CutLemmas
pub mod EqualChanges
pub mod RunLemmas
pub mod StepLemmas
pub mod TextLemmas
