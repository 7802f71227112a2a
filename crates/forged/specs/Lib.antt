pub mod Each
pub mod Outside
