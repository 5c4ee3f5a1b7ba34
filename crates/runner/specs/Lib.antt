pub mod Output
pub mod Examples
pub mod Parsing
pub mod TableView
pub mod EventsView
pub mod ToCome
pub mod Feeding
pub mod Slots
