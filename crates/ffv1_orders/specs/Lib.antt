pub mod Noted
pub mod Looked
pub mod Statuses
pub mod Telling
pub mod Orders
pub mod Output
