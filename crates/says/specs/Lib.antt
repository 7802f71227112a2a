pub mod Says
pub mod Text
