use Rattle.std.proofs.Common.{◌≡◌, ◌+◌, ◌≤◌, length, arith}
use Rattle.awari_table.specs.Images.{table_of}
use Rattle.awari_scan.proofs.Scanning.{unopened_fits, unopened_scanned}
use Rattle.awari_segments.proofs.scanning.scanned_segment.Goals as goal

pub unopened-requires-clause-fit : goal.unopened-requires-clause-fit
unopened-requires-clause-fit c =
    let n = length c.args.shelf.now in
    let low : n ≤ 24 = omega (arith, c.requires.low) in
    let cells = c.in_ok-cells.cells.items in
    let long : c.args.start + length cells ≡ c.args.end = omega (arith, c.in_ok-cells.ensures.size, c.in_ok-cells.cells.ok.0) in
    unopened_fits (table_of c.args.shelf.now).value n c.args.start c.args.end cells low c.requires.within long c.in_ok-cells.ensures.scanned c.levels-number.result c.levels-number.ensures.levels

pub returns : goal.returns
returns c =
    let n = length c.args.shelf.now in
    let low : n ≤ 24 = omega (arith, c.requires.low) in
    let cells = c.in_ok-cells.cells.items in
    let long : c.args.start + length cells ≡ c.args.end = omega (arith, c.in_ok-cells.ensures.size, c.in_ok-cells.cells.ok.0) in
    unopened_scanned (table_of c.args.shelf.now).value n c.args.start c.args.end cells low c.requires.within long c.in_ok-cells.ensures.scanned c.levels-number.result c.levels-number.ensures.levels
    c.in_ok-segment.segment c.in_ok-segment.ensures
