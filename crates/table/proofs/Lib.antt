pub mod LineBytes
pub mod Places
pub mod Reading
pub mod Writing
pub mod Alike
pub mod ReadBack
pub mod Deciding
pub mod InRange
