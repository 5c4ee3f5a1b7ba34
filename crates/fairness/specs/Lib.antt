pub mod Past
pub mod Fairness
pub mod PastOf
