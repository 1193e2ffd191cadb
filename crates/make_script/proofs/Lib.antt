pub mod CountLemmas
pub mod AskedLemmas
pub mod MadeLemmas
