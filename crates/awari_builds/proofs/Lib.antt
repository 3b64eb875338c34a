mod EstimateLaws
mod BuildLaws
pub mod FolderBuilds
mod SavedLevels
mod MigratedLaws
mod OneFolder
