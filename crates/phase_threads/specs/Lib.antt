pub mod Others
pub mod Acts
pub mod Ended
pub mod Jobs
pub mod Placed
pub mod Replies
pub mod Shared
pub mod Works
