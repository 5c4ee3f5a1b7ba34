mod Upward
mod LeadersFound
mod FirstLeader
mod RingStays
pub mod FlowSets
pub mod LedgerFront
pub mod LedgerArrivals
pub mod LedgerSteps
pub mod LedgerBooking
pub mod Settled
pub mod Flags
pub mod Decisions
pub mod Steps
pub mod SameCell
pub mod Creations
