pub mod CellLemmas
pub mod EndLemmas
pub mod PaintLemmas
pub mod ScreenLemmas
pub mod ShownLemmas
pub mod StretchLemmas
pub mod WholeLemmas
