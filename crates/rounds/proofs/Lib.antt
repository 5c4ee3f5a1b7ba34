pub mod Counting
pub mod Entering
pub mod Rounded
pub mod Turns
