pub mod Numbers
pub mod Flags
mod AnswerLemmas
mod FaultLemmas
mod LiveLemmas
mod OutputLemmas
mod ReadLemmas
mod SettingFaults
mod SettingLemmas
mod SettingNumbers
mod SettingRows
mod SettingWalk
mod SettingWords
