pub mod Positions
pub mod Sequence
pub mod SequenceView
