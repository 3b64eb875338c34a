-- The fields of a part.
use Rattle.std.specs.Prelude.{◌≡◌, ◌≤◌}
use Rattle.awari_block.specs.Part.{AreFresh}
use Rattle.awari_owner.specs.declared.parts.Part.TheInside.{Inside}

pub record IsPart (a : Inside) : Type 0 where
  pub opened : 1 ≤ a.boards.gain
  pub fresh : AreFresh a.boards
  pub index : a.index ≡ a.boards.level
