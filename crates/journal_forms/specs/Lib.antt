pub mod Calls
pub mod WordGroups
pub mod CallLaws
pub mod Replies
pub mod ReplyLaws
