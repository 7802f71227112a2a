pub mod Numbers
pub mod ReplyAt
