pub mod Apart
pub mod Digits
pub mod Writing
