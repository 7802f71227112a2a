pub mod Chain
pub mod Picks
