pub mod Accounts
pub mod Pairs
pub mod Layout
pub mod Refusals
