mod Surely
mod Takes
pub mod Steps
pub mod Tells
mod Laying
mod Telling
mod Sources
mod Noting
mod Hearings
mod Given
mod Spans
mod Opened
mod EachPart
mod NearestDue
mod Cutting
pub mod Stages
mod Ahead
mod Heard
mod Keeping
mod ListLemmas
mod LeastDue
mod Joining
mod Giving
mod NearestList
mod LoneTurns
mod Passing
mod Going
