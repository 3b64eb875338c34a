pub use Rattle.awari_pace.specs.Paces
pub mod BuildFault
pub mod NextLevel
pub mod OnePart
pub mod Settled
pub mod Teams
