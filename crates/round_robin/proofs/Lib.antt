pub mod Told
pub mod Found
pub mod Changes
pub mod Fresh
pub mod PutBack
