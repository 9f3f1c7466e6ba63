pub mod EndView
pub mod Ends
pub mod PaintedRows
pub mod Repaint
pub mod Shown
