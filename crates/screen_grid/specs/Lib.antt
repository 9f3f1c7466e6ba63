pub mod Grid
pub mod GridView
pub mod Parts
pub mod Rows
