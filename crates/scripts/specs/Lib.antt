pub mod Items
pub mod Straight
pub mod Sums
pub mod Faults
pub mod Valid
pub mod Reading
pub mod Script
pub mod StraightLine
