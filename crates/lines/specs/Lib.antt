pub mod Handed
pub mod Lines
