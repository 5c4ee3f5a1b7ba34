pub mod Base
pub mod View
pub mod Held
