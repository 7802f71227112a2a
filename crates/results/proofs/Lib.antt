pub mod Playing
pub mod Replies
pub mod Showing
pub mod Told
