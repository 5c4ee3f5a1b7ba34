pub mod BigEndian
pub mod Conditions
pub mod Output
pub mod Ranges
