use Rattle.std.proofs.Common.{◌≡◌, vec_len}
use Rattle.awari_lines.specs.Rings.{AllUnused, HaveRoom, IsGrid}
use Rattle.awari_lines.proofs.making.grid.Given as goal

abbrev pub invariant-loop-owner : goal.invariant-loop-owner
invariant-loop-owner g l = (vec_len l.all ≡ l.owner) × IsGrid l.all.items × AllUnused l.all.items × HaveRoom l.fn.room l.all.items
