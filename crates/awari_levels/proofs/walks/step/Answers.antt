use mir.Syntax.{w64}
use mir.Val.{of_z, to_z}
use Rattle.std.proofs.Common.{◌≡◌, ◌≤◌, Some, true, ap, arith, rules, sym, ◌∙◌}
use Rattle.awari_facts.proofs.SourceLaws.{says_still}
use Rattle.awari_levels.proofs.ChoiceLaws.{weighs}
use Rattle.awari_facts.proofs.RankLaws.{some_entry}
use Rattle.awari_levels.proofs.WalkLaws.{drawn-more, drawn-pass, drawn-skip, due-passes, none-some, passes-key}
use Rattle.awari_levels.proofs.walks.step.Goals as goal

pub is_due-requires-clause-fits : goal.is_due-requires-clause-fits
is_due-requires-clause-fits g c = omega (arith, c.requires.every)

pub returns-then-not-is_due-clause-stepped : goal.returns-then-not-is_due-clause-stepped
returns-then-not-is_due-clause-stepped g c = λ images says found boards walked.
    let low : c.args.choice.asked.level ≤ 24 = omega (arith, c.requires.there.known, c.requires.there.few) in
    let (board, at) = some_entry images c.args.choice.asked.level c.args.rank c.in_ok-entry.entry (c.in_ok-entry.ensures.entry images says walked.run) low c.requires.there.ranked in
    let after = says_still c.args.choice.asked.source _ _ images c.in_ok-entry.ensures.same.stands says in
    let key = c.look-key.ensures.key _ images after walked.keys board at in
    let asked = c.passes-passes.ensures images board key at.entry in
    let weighed = weighs _ images c.args.choice.asked.level c.args.walk.now.passed c.is_due.new.passed _ board c.passes-passes.result c.is_due.result found asked c.is_due.ensures.passed c.is_due.ensures.due in
    record {
      drawn = drawn-skip _ images c.args.choice.asked.level c.args.rank c.args.walk.now.passed c.is_due.new.passed c.args.choice.sample _ boards board _ _ walked.drawn at weighed c.if-not-is_due.true;
      keys = c.look-key.ensures.keys _ images after walked.keys;
      run = c.in_ok-entry.ensures.run images says walked.run;
    }

pub returns-then-not-is_taken-clause-stepped : goal.returns-then-not-is_taken-clause-stepped
returns-then-not-is_taken-clause-stepped g c = λ images says found boards walked.
    let low : c.args.choice.asked.level ≤ 24 = omega (arith, c.requires.there.known, c.requires.there.few) in
    let (board, at) = some_entry images c.args.choice.asked.level c.args.rank c.in_ok-entry.entry (c.in_ok-entry.ensures.entry images says walked.run) low c.requires.there.ranked in
    let after = says_still c.args.choice.asked.source _ _ images c.in_ok-entry.ensures.same.stands says in
    let key = c.look-key.ensures.key _ images after walked.keys board at in
    let asked = c.passes-passes.ensures images board key at.entry in
    let weighed = weighs _ images c.args.choice.asked.level c.args.walk.now.passed c.is_due.new.passed _ board c.passes-passes.result c.is_due.result found asked c.is_due.ensures.passed c.is_due.ensures.due in
    let none = sym c.is_taken.ensures.taken ∙ c.if-not-is_taken.true in
    record {
      drawn = drawn-pass _ images c.args.choice.asked.level c.args.rank c.args.walk.now.passed c.is_due.new.passed c.args.choice.sample _ _ boards board _ _ walked.drawn at weighed c.if-not-is_due.false c.is_taken.ensures.after none;
      keys = c.look-key.ensures.keys _ images after walked.keys;
      run = c.in_ok-entry.ensures.run images says walked.run;
    }

pub returns-in-Some-clause-stepped : goal.returns-in-Some-clause-stepped
returns-in-Some-clause-stepped g c = λ images says found boards walked.
    let low : c.args.choice.asked.level ≤ 24 = omega (arith, c.requires.there.known, c.requires.there.few) in
    let (board, at) = some_entry images c.args.choice.asked.level c.args.rank c.in_ok-entry.entry (c.in_ok-entry.ensures.entry images says walked.run) low c.requires.there.ranked in
    let after = says_still c.args.choice.asked.source _ _ images c.in_ok-entry.ensures.same.stands says in
    let key = c.look-key.ensures.key _ images after walked.keys board at in
    let asked = c.passes-passes.ensures images board key at.entry in
    let weighed = weighs _ images c.args.choice.asked.level c.args.walk.now.passed c.is_due.new.passed _ board c.passes-passes.result c.is_due.result found asked c.is_due.ensures.passed c.is_due.ensures.due in
    let one = sym c.is_taken.ensures.taken ∙ c.if-not-is_taken.false in
    let back : to_z w64 (of_z w64 c.in-Some.key) ≡ c.in-Some.key = search rules in (
      board,
      record { at = at; key = ap (λ k. Some k) back ∙ sym c.in-Some.is ∙ key },
      record {
        drawn = drawn-more _ images c.args.choice.asked.level c.args.rank c.args.walk.now.passed c.is_due.new.passed c.args.choice.sample _ _ boards board _ _ walked.drawn at weighed c.if-not-is_due.false c.is_taken.ensures.after one;
        keys = c.look-key.ensures.keys _ images after walked.keys;
        run = c.in_ok-entry.ensures.run images says walked.run;
      },
    )

pub returns-in-None-clause-stepped : goal.returns-in-None-clause-stepped
returns-in-None-clause-stepped g c = λ images says found boards walked.
    let low : c.args.choice.asked.level ≤ 24 = omega (arith, c.requires.there.known, c.requires.there.few) in
    let (board, at) = some_entry images c.args.choice.asked.level c.args.rank c.in_ok-entry.entry (c.in_ok-entry.ensures.entry images says walked.run) low c.requires.there.ranked in
    let after = says_still c.args.choice.asked.source _ _ images c.in_ok-entry.ensures.same.stands says in
    let key = c.look-key.ensures.key _ images after walked.keys board at in
    let asked = c.passes-passes.ensures images board key at.entry in
    let passed : c.passes-passes.result ≡ true = due-passes c.passes-passes.result c.is_due.result _ c.is_due.ensures.due c.if-not-is_due.false in
    absurd (none-some _ (sym c.in-None.is ∙ passes-key _ images c.args.choice.farthest board c.look-key.result key (sym asked ∙ passed)))
