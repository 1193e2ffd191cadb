pub mod CutLaws
pub mod Picks
pub mod PieceLaws
