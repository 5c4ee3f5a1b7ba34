pub mod Rules
pub mod Facts
pub mod Bookable
pub mod RecordFits
pub mod InOrder
