pub mod BankLemmas
pub mod ConcatLemmas
pub mod DramLemmas
pub mod StretchLemmas
pub mod StateFormats
