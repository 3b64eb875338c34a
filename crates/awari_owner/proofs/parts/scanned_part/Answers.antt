use Rattle.std.proofs.Common.{◌+◌, length, vec_len, rules, arith}
use Rattle.awari_table.specs.Images.{table_of}
use Rattle.awari_scan.proofs.Scanning.{unopened_fits, unopened_fresh, unopened_scanned}
use Rattle.awari_owner.proofs.parts.scanned_part.Goals as goal

pub unopened-requires-clause-fit : goal.unopened-requires-clause-fit
unopened-requires-clause-fit c =
    unopened_fits (table_of c.args.shelf.now).value (length c.args.shelf.now) c.args.start (c.args.start + vec_len c.args.cells) c.args.cells.items (omega (arith, c.requires.low)) c.requires.within (search rules) c.requires.scanned c.levels.result c.levels.ensures.levels

pub returns : goal.returns
returns c = (
  unopened_scanned (table_of c.args.shelf.now).value (length c.args.shelf.now) c.args.start (c.args.start + vec_len c.args.cells) c.args.cells.items (omega (arith, c.requires.low)) c.requires.within (search rules) c.requires.scanned c.levels.result c.levels.ensures.levels
      _ c.in_ok-boards.ensures,
  unopened_fresh (table_of c.args.shelf.now).value (length c.args.shelf.now) c.args.start (c.args.start + vec_len c.args.cells) c.args.cells.items (omega (arith, c.requires.low)) c.requires.within (search rules) c.requires.scanned c.levels.result c.levels.ensures.levels
      _ c.in_ok-boards.ensures,
)
