pub mod Cut
pub mod Flat
pub mod Whole
