pub mod AloneLemmas
pub mod AskedLemmas
pub mod BetweenLemmas
pub mod BlankLemmas
pub mod CellRows
pub mod ColumnLemmas
mod EqualAtEndLemmas
pub mod EqualLemmas
pub mod FaceLemmas
pub mod ItemLemmas
pub mod LeftLemmas
pub mod SingleLemmas
pub mod PartLemmas
pub mod PlainLemmas
pub mod RowLemmas
mod RunLists
mod RunSteps
pub mod SetLemmas
pub mod ShownLemmas
pub mod SizeLemmas
pub mod StepLemmas
pub mod TextLemmas
pub mod VisibleLemmas
pub mod WalkLemmas
