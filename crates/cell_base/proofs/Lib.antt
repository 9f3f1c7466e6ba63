pub mod KeyOrder
mod KnownWidths
pub mod LinkLaws
pub mod LinkRows
pub mod Fields
pub mod ReadingSteps
pub mod SameTexts
pub mod TextsReading
pub mod PlainClusters
pub mod NarrowAscii
pub mod SingleWidths
mod RenditionLaws
pub mod LawfulScreens
pub mod RowLemmas
