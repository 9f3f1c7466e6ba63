pub mod Difference
pub mod Drawing
pub mod DrawingView
pub mod DrawnCells
pub mod FreshCells
pub mod Redrawn
pub mod ShownCells
pub mod Prints
