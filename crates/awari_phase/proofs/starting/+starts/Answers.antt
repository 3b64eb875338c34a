use Rattle.std.proofs.Common.{◌≡◌, ◌∷◌, [], length, vec_len, length-append, ap, subst, ◌∙◌, arith}
use Rattle.std.proofs.lemmas.Result.{IfErr-weaker}
use Rattle.rayon.proofs.ListFacts.{IfOk-then}
use Rattle.awari_phase.specs.declared.owners.Owner.{Owner}
use Rattle.awari_phase.specs.declared.starting.KeptFrom.{KeptFrom}
use Rattle.awari_phase.specs.Stops.{HasWorked}
use Rattle.awari_phase.proofs.Worked.{pushed_worked}
use Rattle.awari_phase.proofs.starting.+starts.Goals as goal

pub scope-returns-in-Ok : goal.scope-returns-in-Ok
scope-returns-in-Ok g t c = (
  IfOk-then c.with_last.result _ _ c.with_last.ensures.ok (λ all h.
      let before = h.0 in
      let len : vec_len before ≡ vec_len c.captures.owners = rw h.1 at c.work_all-others.ensures.len in
      let worked = rw h.1 at c.work_all-others.ensures.worked in
      let bef = before.ok.0 in
      let last : HasWorked c.captures.owner c.join.result = subst (λ (u : Owner). HasWorked u c.join.result) (ap (λ (p : KeptFrom). p.0.value) c.in-Ok.ensures.ok ∙ c.of.ensures) c.join.ensures in
      let grown = ap length h.2 in
      let more = length-append before.items (c.join.result ∷ []) in
      let whole = all.ok.0 in
      let room = rw h.1 at c.work_all-others.ensures.room in
      let larger = h.3 in
      (omega (arith, grown, more, whole, bef, len), pushed_worked c.captures.owners.items before.items all.items c.captures.owner c.join.result h.2 worked last, omega (arith, room, larger))),
  IfErr-weaker c.with_last.result _ _ (λ fault same. rw same at c.work_all-others.ensures.wanting) c.with_last.ensures.same,
)

pub scope-with_last-requires : goal.scope-with_last-requires
scope-with_last-requires g t c = record {
  room = λ before is.
      let len : vec_len before ≡ vec_len c.captures.owners = rw is at c.work_all-others.ensures.len in
      let room = rw is at c.work_all-others.ensures.room in
      let had = c.requires.3 in
      omega (arith, len, room, had);
}

pub returns-clause-worked : goal.returns-clause-worked
returns-clause-worked g t c =
    let is = c.in-Some.ensures.items in
    IfOk-then c.scoped.result _ _ c.scoped.ensures.1.0 (λ all h. rw is h.1)
