use Rattle.std.proofs.Common.{ℕ, ℤ, SFits, w8, ap, ◌∙◌, subst, sym, rules, eqb-true}
use Rattle.std.proofs.lemmas.Int.{to_z-of_z}
use Rattle.awari_block.specs.Tally as tally
use Rattle.awari_block.specs.Cells.{IsEither, IsWithin}
use Rattle.awari_scan.proofs.Looks.{scanned_capturing, scanned_quiet, scanned_ended}
use Rattle.awari_scan.proofs.outlooks.cell_of.Goals as goal

abbrev capturing : ℕ → ℕ → ℤ → tally.Cell
capturing quiet plans best = record { left = quiet; status = tally.Open (tally.ByCapture best) plans 0 }

abbrev ended : ℤ → tally.Cell
ended gain = record { left = 0; status = tally.Ended gain }

pub returns-in-Some : goal.returns-in-Some
returns-in-Some c = λ value is ranged seen.
    let fits : SFits w8 c.in-Some.best = search rules in
    scanned_capturing value c.args.board.now c.args.seen.quiet c.in-Some.best c.args.seen.best c.args.seen.plans c.of_captures.result is ranged c.in-Some.is seen
    (c.of_captures.ensures.cell ∙ ap (capturing c.args.seen.quiet c.args.seen.plans) (to_z-of_z w8 c.in-Some.best fits))
    (λ stake within. c.of_captures.ensures.fits stake (subst (IsWithin stake.level) (sym (to_z-of_z w8 c.in-Some.best fits)) within))

pub returns-else-is_empty : goal.returns-else-is_empty
returns-else-is_empty c = λ value is ranged seen.
    scanned_quiet value c.args.board.now c.args.seen.quiet c.args.seen.best c.args.seen.plans c.of_quiet.result is ranged c.in-None.is (search rules) seen c.of_quiet.ensures.cell c.of_quiet.ensures.fits

pub returns-then-is_empty : goal.returns-then-is_empty
returns-then-is_empty c = λ value is ranged seen.
    let fits : SFits w8 c.end_of.result = search rules in
    scanned_ended value c.args.board.now c.args.seen.quiet c.args.seen.best c.args.seen.plans c.end_of.result c.of_end.result is ranged c.in-None.is (eqb-true _ _ (sym c.is_empty.ensures ∙ c.if-is_empty.true)) seen c.end_of.ensures
    (c.of_end.ensures.cell ∙ ap ended (to_z-of_z w8 c.end_of.result fits))
    (λ stake either. c.of_end.ensures.fits stake (subst (IsEither stake.level) (sym (to_z-of_z w8 c.end_of.result fits)) either))
