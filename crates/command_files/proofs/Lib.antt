pub mod OneStatus
pub mod CallLemmas
pub mod Refusals
pub mod Places
pub mod GoodLemmas
