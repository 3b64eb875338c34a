pub mod LevelLineLaws
mod LineCounts
mod PrintLaws
mod RefusalLaws
mod Requests
