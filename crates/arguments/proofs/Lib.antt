pub mod Places
pub mod Takes
