pub mod Rounds
pub mod Arrears
pub mod Laws
pub mod InTurn
