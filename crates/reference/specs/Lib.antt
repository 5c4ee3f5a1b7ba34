pub mod Meaning
pub mod Calls
pub mod Flows
pub mod Shares
