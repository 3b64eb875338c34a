-- The fields of a closed part.
use Rattle.std.specs.Prelude.{◌≡◌, ◌+◌, ◌^◌, ◌<◌, vec_len}
use Rattle.awari_block.specs.declared.closed.ClosedPart.TheInside.{Inside}

pub record IsClosedPart (a : Inside) : Type 0 where
  pub last : a.stake.gain ≡ 1
  pub fits : a.start + vec_len a.cells < 2 ^ 32
