pub mod Gathered
pub mod Whole
