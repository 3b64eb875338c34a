use Rattle.std.proofs.Common.{◌+◌, ℤ, SFits, w8, subst, sym, ap, ◌∙◌, rules}
use Rattle.std.proofs.lemmas.Int.{to_z-of_z}
use Rattle.awari_block.specs.Steps.{greater_of, pits_after}
use Rattle.awari_table.specs.Images.{table_of}
use Rattle.awari_block.specs.Cells.{IsWithin}
use Rattle.awari_scan.specs.Scan.{IsOutlook}
use Rattle.awari_scan.specs.declared.outlooks.Outlook.{Outlook}
use Rattle.awari_scan.proofs.Looks.{seen_captures}
use Rattle.awari_scan.proofs.outlooks.see_capture.Goals as goal

pub returns : goal.returns
returns c = λ p stones move seen.
    let fits : SFits w8 c.gain_of-gain.result = search rules in
    let put : ℤ → Outlook = λ z. record c.args.seen.now { best = greater_of c.args.seen.now.best z; plans = pits_after c.args.seen.now.best c.args.seen.now.plans z c.args.pit } in
    subst (λ (o : Outlook). IsOutlook (table_of c.args.shelf.now).value p (c.args.pit + 1) o.quiet o.best o.plans) (sym (c.put_capture.ensures ∙ ap put (to_z-of_z w8 c.gain_of-gain.result fits)))
    (seen_captures (table_of c.args.shelf.now).value p c.args.pit c.args.seen.now.quiet c.args.moved.now.captured c.args.moved.now.board c.gain_of-gain.result
    c.requires.own move c.requires.captures.some c.gain_of-gain.ensures.gain (subst (λ n. IsWithin n c.gain_of-gain.result) (sym stones) c.gain_of-gain.ensures.within)
    c.args.seen.now.best c.args.seen.now.plans seen)
