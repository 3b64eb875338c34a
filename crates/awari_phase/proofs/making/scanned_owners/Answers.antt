use Rattle.std.proofs.Common.{append_assoc, append-nil, ◌≡◌, ◌++◌, ◌∷◌, [], List, length, sym, ap, subst, ◌∙◌, arith}
use Rattle.std.proofs.lemmas.List.{nil_from_length}
use Rattle.awari_table.specs.Images.{table_of}
use Rattle.awari_lines.specs.Rings.{HaveRoom}
use Rattle.awari_lines.specs.declared.ends.Ends.{Ends}
use Rattle.awari_phase.specs.declared.owners.Owner.{Owner}
use Rattle.awari_phase.proofs.Beginning.{ScannedTo, scanned_at, scanned_more}
use Rattle.awari_phase.proofs.making.scanned_owners.Goals as goal
use Rattle.awari_phase.specs.Owners.{Notes}

pub loop-ends-preserved : goal.loop-ends-preserved
loop-ends-preserved g c = record {
  whole = append_assoc c.loop-ends.yielded (c.in-Some.ends ∷ []) c.next.new.self.rest.items ∙ ap (λ l. c.loop-ends.yielded ++ l) (sym c.in-Some.ensures.steps.0) ∙ c.loop-ends.invariant.whole;
  scanned = subst (λ (l : List Owner). ScannedTo (table_of c.args.shelf.now).value (length c.args.shelf.now) c.args.owners (c.loop-ends.yielded ++ c.in-Some.ends ∷ []) l) (sym c.in_ok-push.ensures.items)
      (scanned_more (table_of c.args.shelf.now).value (length c.args.shelf.now) c.args.owners c.loop-ends.yielded c.loop-ends.all.items c.in-Some.ends c.in_ok-owner.owner c.loop-ends.invariant.scanned c.in_ok-owner.ensures);
}

pub returns-clause-begun : goal.returns-clause-begun
returns-clause-begun g c =
    let none : c.loop-ends.ends-iterator.rest.items ≡ [] = nil_from_length c.loop-ends.ends-iterator.rest.items (let left = c.loop-ends.ends-iterator.rest.ok.0 in let none = c.in-None.ensures.steps.0 in omega (arith, left, none)) in
    let yielded = sym (append-nil c.loop-ends.yielded) ∙ ap (λ l. c.loop-ends.yielded ++ l) (sym none) ∙ c.loop-ends.invariant.whole ∙ c.into_iter-ends-iterator.ensures.into_iter_gives.0 in
    let long = c.in_ok-grid.grid.ok.0 in
    let count = c.in_ok-grid.ensures.owners in
    scanned_at (table_of c.args.shelf.now).value (length c.args.shelf.now) c.args.owners c.in_ok-grid.grid.items c.loop-ends.all.items c.requires.owners.0 (omega (arith, long, count))
    c.in_ok-grid.ensures.grid c.in_ok-grid.ensures.unused (rw yielded at c.loop-ends.invariant.scanned)

pub returns-clause-room : goal.returns-clause-room
returns-clause-room g c =
    let none : c.loop-ends.ends-iterator.rest.items ≡ [] = nil_from_length c.loop-ends.ends-iterator.rest.items (let left = c.loop-ends.ends-iterator.rest.ok.0 in let none = c.in-None.ensures.steps.0 in omega (arith, left, none)) in
    let yielded = sym (append-nil c.loop-ends.yielded) ∙ ap (λ l. c.loop-ends.yielded ++ l) (sym none) ∙ c.loop-ends.invariant.whole ∙ c.into_iter-ends-iterator.ensures.into_iter_gives.0 in
    subst (λ (l : List (Ends Notes)). HaveRoom c.args.room l) (sym (c.loop-ends.invariant.scanned.ends ∙ yielded)) c.in_ok-grid.ensures.room
