pub mod Least
pub mod Fractions
