pub mod EffectLaws
pub mod StrokeLaws
pub mod PartLemmas
pub mod SoundLemmas
pub mod WrittenLemmas
pub mod SizeLemmas
pub mod TextLemmas
