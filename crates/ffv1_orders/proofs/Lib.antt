mod Looked
mod LineStatuses
