pub mod Given
pub mod Offers
pub mod Ready
