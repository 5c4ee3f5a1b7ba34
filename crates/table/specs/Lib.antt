pub mod Lines
pub mod Layout
pub mod Refusals
pub mod Layers
