mod SlotLemmas
mod ShapeLemmas
mod SgrLemmas
mod PieceLemmas
mod SgrTokens
mod TextSteps
pub mod CoordinateLemmas
mod ReadingLemmas
mod JoinLemmas
mod BackLemmas
pub mod ReadWritable
mod TableBack
mod SgrForms
mod SgrBack
mod ModeBack
pub mod RoundTrip
mod TextLemmas
mod Written
mod TextTrip
pub mod TokenLemmas
mod PrefixLemmas
pub mod PrefixTrip
mod SizeLemmas
mod LongestLemmas
mod DigitLemmas
mod GroupLemmas
pub mod KeptLemmas
mod SignLemmas
mod CountLemmas
pub mod SettingLemmas
