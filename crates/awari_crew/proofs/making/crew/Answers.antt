use Rattle.std.proofs.Common.{◌≡◌, ◌∷◌, ◌++◌, [], List, map, inl, inr, append_assoc, append-nil, sym, ap, subst, ◌∙◌, arith}
use Rattle.std.proofs.lemmas.List.{map-append, nil_from_length}
use Rattle.awari_block.specs.Notes.{Has}
use Rattle.awari_block.proofs.NoteLists.{Has-append_cases}
use Rattle.awari_lines.specs.declared.ends.Ends.{Ends}
use Rattle.awari_crew.specs.Homes.{ends_from}
use Rattle.awari_crew.specs.declared.letters.Letter.{Letter}
use Rattle.awari_crew.specs.declared.members.Member.{Member}
use Rattle.awari_crew.proofs.Homing.{IsMemberOf, crew_of}
use Rattle.awari_crew.proofs.making.crew.Goals as goal

pub loop-ends-preserved : goal.loop-ends-preserved
loop-ends-preserved c = record {
  whole = append_assoc c.loop-ends.yielded (c.in-Some.ends ∷ []) c.next.new.self.rest.items ∙ ap (λ (l : List (Ends Letter)). c.loop-ends.yielded ++ l) (sym c.in-Some.ensures.steps.0) ∙ c.loop-ends.invariant.whole;
  ends = ap (map ends_from) c.in_ok-push.ensures.items ∙ map-append ends_from c.loop-ends.all.items (c.in_ok-member.member ∷ [])
      ∙ ap (λ (l : List (Ends Letter)). l ++ c.in_ok-member.member.ends ∷ []) c.loop-ends.invariant.ends ∙ ap (λ (e : Ends Letter). c.loop-ends.yielded ++ e ∷ []) c.in_ok-member.ensures.ends;
  each = λ m has. elim (Has-append_cases c.loop-ends.all.items (c.in_ok-member.member ∷ []) m (subst (λ (l : List Member). Has l m) c.in_ok-push.ensures.items has)) [
    | inl was ↦ c.loop-ends.invariant.each m was
    | inr (inl here) ↦
        subst (IsMemberOf c.args.task.now.shelf c.args.task.now.log) (sym here)
        (record { shelf_is = c.in_ok-member.ensures.task.0; level = c.in_ok-member.ensures.task.1; log_is = c.in_ok-member.ensures.task.2 })
    | inr (inr none) ↦ elim none [ ]
  ];
}

pub returns : goal.returns
returns c =
    let none : c.loop-ends.ends-iterator.rest.items ≡ [] = nil_from_length c.loop-ends.ends-iterator.rest.items (let left = c.loop-ends.ends-iterator.rest.ok.0 in let none = c.in-None.ensures.steps.0 in omega (arith, left, none)) in
    let yielded = sym (append-nil c.loop-ends.yielded) ∙ ap (λ l. c.loop-ends.yielded ++ l) (sym none) ∙ c.loop-ends.invariant.whole ∙ c.into_iter-ends-iterator.ensures.into_iter_gives.0 in
    crew_of c.args.task.now.shelf c.args.task.now.log c.loop-ends.all.items c.in_ok-grid.grid.items (c.loop-ends.invariant.ends ∙ yielded) c.in_ok-grid.ensures.grid c.in_ok-grid.ensures.unused c.loop-ends.invariant.each
