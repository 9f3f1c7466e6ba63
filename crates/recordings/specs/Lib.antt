pub mod Numerals
pub mod Events
pub mod EventView
pub mod HeadView
pub mod Recordings
pub mod Order
pub mod RecordingView
