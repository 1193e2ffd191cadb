pub mod CalendarLemmas
pub mod WidthLemmas
pub mod ZeroLemmas
pub mod MergedLemmas
