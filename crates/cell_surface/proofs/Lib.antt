pub mod CellLemmas
pub mod TextLemmas
