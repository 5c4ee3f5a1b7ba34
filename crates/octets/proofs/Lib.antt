pub mod Digits
pub mod Fronts
pub mod Tails
