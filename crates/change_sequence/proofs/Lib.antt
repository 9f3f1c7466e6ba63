pub mod AddLemmas
pub mod MoveLemmas
pub mod PushLemmas
mod ScreenLemmas
