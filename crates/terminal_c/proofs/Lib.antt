pub mod AsBox
mod ToldLemmas
