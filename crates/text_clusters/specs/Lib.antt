pub mod Independent
pub mod Controls
pub mod Lanes
pub mod Plain
