mod AnsiLemmas
pub mod ContentLemmas
pub mod EscapeLemmas
pub mod JsonLemmas
pub mod TokenLemmas
pub mod RunLemmas
pub mod ScreenContent
pub mod SvgLemmas
