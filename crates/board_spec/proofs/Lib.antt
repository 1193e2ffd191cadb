pub mod StimulusLaws
pub mod StoreLemmas
pub mod TableLemmas
pub mod WideLemmas
pub mod MapByteLaws
pub mod MapWriteLaws
pub mod FlatMapLaws
pub mod SpanLaws
mod LockLaws
pub mod ReplayLaws
pub mod OrderLawProofs
pub mod GoesOnProofs
pub mod OrderLengths
pub mod PartLawProofs
mod WordProofs
pub mod LineProofs
pub mod DeviceProofs
