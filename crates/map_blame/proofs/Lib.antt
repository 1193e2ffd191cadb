pub mod KeepLaws
pub mod CoverLemmas
pub mod KeptLemmas
pub mod StandsLemmas
pub mod WatchLemmas
pub mod OneReport
