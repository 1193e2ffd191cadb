pub mod BaseLemmas
pub mod CardLemmas
pub mod CardListLemmas
pub mod ClaimLemmas
pub mod ContentsLemmas
pub mod TableLemmas
pub mod WindowLemmas
pub mod StateFormats
