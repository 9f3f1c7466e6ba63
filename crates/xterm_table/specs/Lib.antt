pub mod Follows
pub mod RowEdits
pub mod RowMoves
pub mod Displays
