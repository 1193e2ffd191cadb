pub mod SentLemmas
pub mod PutLemmas
pub mod Answers
pub mod Causes
pub mod Exact
pub mod OwnPlaces
