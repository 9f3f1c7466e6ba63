mod CutLemmas
mod PlayLemmas
mod WriteLemmas
