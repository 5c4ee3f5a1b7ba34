pub mod Numbers
pub mod VirtualTime
pub mod Picks
pub mod FirstToFinish
pub mod Laws
pub mod SameMarks
