pub mod PmcLemmas
pub mod RowLemmas
pub mod TableLemmas
pub mod RowNames
pub mod PamLemmas
