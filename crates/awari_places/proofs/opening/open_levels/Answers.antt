use Rattle.std.proofs.Common.{◌≡◌, ◌+◌, ◌∙◌, Some, None, ap, arith, inl, inr, refl, rules, subst}
use Rattle.awari_folder.proofs.States.{unchanged, unchanged_then}
use Rattle.awari_places.specs.Opening.{IsFrame}
use Rattle.awari_places.proofs.Framing.{are_framed, none_there, one_more_there, open_fault}
use Rattle.awari_places.proofs.opening.open_levels.Goals as goal

pub loop-level-init : goal.loop-level-init
loop-level-init g c = record { levels = refl; there = λ names are. none_there names; unchanged = unchanged _; refused = refl }

pub loop-level-preserved : goal.loop-level-preserved
loop-level-preserved g c =
    let i = c.loop-level.invariant in
    record {
      levels = c.with_level-opened.ensures.levels ∙ ap (λ n. n + 1) i.levels;
      there = λ names are.
          let known = i.unchanged.stands c.loop-level.level ∙ are c.loop-level.level in
          let frame : IsFrame c.loop-level.level (names c.loop-level.level) (Some c.in-Ok-Some.limit) = subst (IsFrame c.loop-level.level (names c.loop-level.level)) c.in-Ok-Some.field-0-is (c.in-Ok-Some.ensures.exact (names c.loop-level.level) known) in
          one_more_there names c.loop-level.level c.loop-level.opened.limit c.in-Ok-Some.limit _ (i.there names are) frame c.with_level-opened.ensures.limit;
      unchanged = unchanged_then _ _ _ i.unchanged c.frame_of.ensures.reads.unchanged;
      refused = c.in-Ok-Some.ensures.reads.refused ∙ i.refused;
    }

pub returns-in-Err-clause-exact : goal.returns-in-Err-clause-exact
returns-in-Err-clause-exact g c = λ names are.
    let i = c.loop-level.invariant in
    let known = i.unchanged.stands c.loop-level.level ∙ are c.loop-level.level in
    let low = c.loop-level-test.true in
    open_fault c.args.most names c.loop-level.level c.loop-level.opened.limit c.in-Err.fault (omega (arith, low)) (i.there names are) (c.in-Err.ensures.exact (names c.loop-level.level) known)

pub returns-in-Ok-None-clause-exact : goal.returns-in-Ok-None-clause-exact
returns-in-Ok-None-clause-exact g c = λ names are.
    let i = c.loop-level.invariant in
    let known = i.unchanged.stands c.loop-level.level ∙ are c.loop-level.level in
    let low = c.loop-level-test.true in
    let none : names c.loop-level.level ≡ None = subst (IsFrame c.loop-level.level (names c.loop-level.level)) c.in-Ok-None.field-0-is (c.in-Ok-None.ensures.exact (names c.loop-level.level) known) in
    are_framed c.args.most names c.loop-level.opened c.loop-level.level i.levels (omega (arith, low)) (i.there names are) (inl none)

pub returns-in-Ok-Some-clause-exact : goal.returns-in-Ok-Some-clause-exact
returns-in-Ok-Some-clause-exact g c = λ names are.
    let i = c.loop-level.invariant in
    let known = i.unchanged.stands c.loop-level.level ∙ are c.loop-level.level in
    let frame : IsFrame c.loop-level.level (names c.loop-level.level) (Some c.in-Ok-Some.limit) = subst (IsFrame c.loop-level.level (names c.loop-level.level)) c.in-Ok-Some.field-0-is (c.in-Ok-Some.ensures.exact (names c.loop-level.level) known) in
    let low = c.loop-level-test.true in
    are_framed c.args.most names c.with_level-opened.result (c.loop-level.level + 1) (c.with_level-opened.ensures.levels ∙ ap (λ n. n + 1) c.loop-level.invariant.levels) (omega (arith, low)) (one_more_there names c.loop-level.level c.loop-level.opened.limit c.in-Ok-Some.limit _ (i.there names are) frame c.with_level-opened.ensures.limit) (inr (search rules))
