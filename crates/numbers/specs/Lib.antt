pub mod Digits
pub mod Number
