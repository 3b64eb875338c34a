use Rattle.std.proofs.Common.{ℕ, sym, subst}
use Rattle.std.specs.Prelude.{Option}
use Rattle.awari_heard.specs.Level.{AreWhole}
use Rattle.awari_segments.specs.Slices.{SlicedView}
use Rattle.awari_exports.specs.Held.{IsBegun, IfBegun}
use Rattle.awari_exports.proofs.held.Held.finish.Goals as goal

pub next_level-requires-clause-made : goal.next_level-requires-clause-made
next_level-requires-clause-made c =
    let levels = c.self.inside.stored.shelf in let parts = c.in_ok-draft.draft.parts in
    let begun : IsBegun levels c.in_ok-draft.draft = subst (λ (o : Option SlicedView). IfBegun levels o) (sym c.in_ok-draft.ensures.value) c.self.invariant.0 in
    record {
      parts = parts;
      whole = subst (λ (n : ℕ). AreWhole n parts) begun.level c.in-Ok.ensures.parts.1;
      closed = c.in-Ok.ensures.parts.0;
      heard = begun.heard;
      kept = c.in-Ok.ensures.kept;
    }
