pub mod Registers
pub mod Cells
pub mod Transfer
pub mod Stores
pub mod UnderWay
pub mod Pieces
pub mod States
