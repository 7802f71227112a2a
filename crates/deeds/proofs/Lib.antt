pub mod Deeds
pub mod Seven
