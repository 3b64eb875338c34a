mod PlainSteps
mod Statuses
pub mod HearingPlans
mod OpeningPlans
pub mod PlannedTallies
pub mod Taking
pub mod Gains
pub mod SpreadBoards
pub mod Coming
mod PlainFinish
pub mod Finishing
mod RightCells
pub mod Levels
mod Distances
pub mod Blocks
