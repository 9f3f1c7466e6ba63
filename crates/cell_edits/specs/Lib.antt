pub mod CellList
pub mod Links
pub mod RowEdits
pub mod ShownCells
pub mod TextRuns
pub mod VisibleCells
