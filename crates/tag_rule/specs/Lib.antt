pub mod Rule
pub mod Tags
pub mod Ranks
