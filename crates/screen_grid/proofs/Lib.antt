pub mod FeedLemmas
pub mod LineLemmas
pub mod MoveLemmas
pub mod PartLemmas
pub mod PutLemmas
pub mod RunLemmas
pub mod ShowLemmas
pub mod RingLemmas
