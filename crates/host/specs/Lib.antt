pub mod Entries
pub mod Held
