pub use Rattle.awari_play.specs.Plan
pub use Rattle.awari_play.specs.Least
pub use Rattle.awari_play.specs.BestLine
pub use Rattle.awari_play.specs.LineFault
pub use Rattle.awari_play.specs.MoveWorth
pub mod Finished
