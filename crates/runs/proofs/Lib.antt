pub mod Played
pub mod Refusals
