pub mod PartFields
pub mod Spread
pub mod Predecessors
pub mod OwnerFault
pub mod Sound
pub mod Owners
pub mod Outboxes
pub mod Queues
