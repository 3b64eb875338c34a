use Rattle.std.proofs.Common.{subst, sym}
use Rattle.awari_table.specs.Images.{table_of}
use Rattle.awari_scan.specs.Scan.{IsRanged}
use Rattle.awari_scan.proofs.Looks.{seen_none, seen_ended}
use Rattle.awari_scan.proofs.runs.scanned.Goals as goal

pub see_pit-requires-clause-seen : goal.see_pit-requires-clause-seen
see_pit-requires-clause-seen c = seen_none (table_of c.args.shelf.now).value c.args.board.now

pub cell_of-requires : goal.cell_of-requires
cell_of-requires c = record {
  ended = λ none nothing. seen_ended (table_of c.args.shelf.now).value c.args.board.now c.see_pit-6.new.seen.quiet c.see_pit-6.new.seen.best c.see_pit-6.new.seen.plans none nothing c.see_pit-6.ensures;
}

pub returns : goal.returns
returns c =
    c.cell_of.ensures (table_of c.args.shelf.now).value c.requires.board
    (subst (IsRanged (table_of c.args.shelf.now).value) (sym c.requires.stones) c.requires.values.ranged) c.see_pit-6.ensures
