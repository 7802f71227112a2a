pub mod Answer
pub mod Decided
