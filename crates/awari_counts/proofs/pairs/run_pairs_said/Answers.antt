use Rattle.std.proofs.Common.{arith, Ok, ap, ◌∙◌}
use Rattle.awari_places.proofs.Reading.{still_says}
use Rattle.awari_counts.proofs.pairs.run_pairs_said.Goals as goal

pub returns-in-Ok-print_own_pairs-clause-found : goal.returns-in-Ok-print_own_pairs-clause-found
returns-in-Ok-print_own_pairs-clause-found g c = λ done. record {
  opened = c.in-Ok.field-0;
  framed = c.in-Ok.ensures.framed;
  known = omega (arith, c.in-Ok.ensures.only);
  said = λ images says.
      c.print_own_pairs.ensures.printed c.in-Ok.field-0.levels images (still_says _ _ c.in-Ok.field-0.levels images c.in-Ok.ensures.asks.unchanged.stands says) (omega (arith, c.in-Ok.ensures.only))
      (c.in-Ok-print_own_pairs.is ∙ ap (λ b. Ok b) (c.status_of.ensures.written.0 done));
}
