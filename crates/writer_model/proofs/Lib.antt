mod Cases
pub mod WrittenNumbers
pub mod RecordBytes
pub mod Parts
pub mod Filled
pub mod SameTable
pub mod Drafts
pub mod Additions
pub mod Prefix
pub mod AddedNodes
pub mod TreeWith
pub mod Finished
pub mod ReadBack
pub mod ReadsBack
pub mod Reread
pub mod Rewrites
pub mod RoomKept
pub mod Numbered
