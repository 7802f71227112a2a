pub mod Ends
pub mod Lowest
