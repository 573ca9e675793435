pub mod TimesLemmas
pub mod WalkLemmas
pub mod CompareLemmas
pub mod TallyLemmas
pub mod OrderingLemmas
pub mod MeasureLemmas
pub mod PlaceLemmas
pub mod StableLemmas
