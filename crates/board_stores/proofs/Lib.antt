pub mod MemoryLemmas
pub mod CutLemmas
pub mod PutLemmas
pub mod ValueLemmas
pub mod JoinLemmas
pub mod RowLemmas
