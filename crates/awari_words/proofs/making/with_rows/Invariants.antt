use Rattle.std.proofs.Common.{map, take}
use Rattle.clap.specs.Simple.{app_of}
use Rattle.awari_words.specs.Commands.{shape_of_row}
use Rattle.awari_words.specs.Making.{IsApp, with_subcommands}
use Rattle.awari_words.proofs.making.with_rows.Given as goal

abbrev pub invariant-loop-row : goal.invariant-loop-row
invariant-loop-row l = IsApp l.awari (with_subcommands (app_of l.fn.awari) (map (shape_of_row (λ t. t.now) (λ w. w.now)) (take l.row-index l.rows)))
