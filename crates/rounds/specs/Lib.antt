pub mod Rounds
pub mod Fewest
