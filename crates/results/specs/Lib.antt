pub mod Output
pub mod Replies
pub mod Shown
