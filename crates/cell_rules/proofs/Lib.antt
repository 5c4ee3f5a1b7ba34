pub mod Rows
pub mod Found
pub mod Settling
pub mod Booking
pub mod Touched
pub mod RecordFits
pub mod InOrder
