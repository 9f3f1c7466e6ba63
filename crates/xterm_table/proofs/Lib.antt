pub mod ColumnLemmas
pub mod RowLemmas
pub mod BlockLemmas
pub mod FollowLemmas
