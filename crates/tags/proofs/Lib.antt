pub mod Steps
pub mod Fresh
pub mod Stored
pub mod Told
pub mod PutBack
