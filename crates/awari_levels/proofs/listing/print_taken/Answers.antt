use Rattle.std.proofs.Common.{◌≡◌, [], ◌∷◌, ◌++◌, true, arith, subst, ap, ◌∙◌}
use Rattle.awari_facts.proofs.FactLaws.{same_board}
use Rattle.awari_facts.proofs.SourceLaws.{says_still}
use Rattle.awari_folder.proofs.States.{unchanged, unchanged_then}
use Rattle.awari_queries.specs.Holding.{first}
use Rattle.awari_levels.proofs.ListingLaws.{lists-all, lists-more, lists-none}
use Rattle.awari_levels.proofs.WalkLaws.{drawn-all, drawn-before, first-all, first-last, left-all, left-more, taken-all}
use Rattle.awari_levels.specs.Batches.{Passes}
use Rattle.awari_levels.specs.Listing.{line_of}
use Rattle.awari_levels.specs.Walks.{Steps}
use Rattle.awari_levels.proofs.listing.print_taken.Goals as goal

pub loop-rank-init : goal.loop-rank-init
loop-rank-init g c = record {
  few = omega (arith, c.in_ok-walk.ensures.none);
  unchanged = unchanged _;
  listed = λ images says choice. ([], c.in_ok-walk.ensures.walked c.args.choice.asked.wanted.now images c.args.choice.asked.level, lists-none c.args.choice.asked.wanted.now images _ _ c.new_batch-batch.ensures, left-all c.args.choice.asked.wanted.now.most);
}

pub loop-rank-preserved-in_default : goal.loop-rank-preserved-in_default
loop-rank-preserved-in_default g c =
    let i = c.loop-rank.invariant in
    record {
      few = c.in_ok-taken.ensures.walked;
      unchanged = unchanged_then _ _ _ i.unchanged c.in_ok-taken.ensures.same;
      listed = λ images says choice.
          let before = i.listed images says choice in
          let stepped = c.in_ok-taken.ensures.stepped images (says_still c.args.choice.asked.source _ _ images i.unchanged.stands says) choice.farthest before.0 before.1 in
          (before.0, subst (λ t. Steps c.args.choice.asked.wanted.now images c.args.choice.asked.level c.loop-rank.rank c.args.choice.sample before.0 t c.step.new.walk) c.in_default.is stepped, before.2, before.3);
    }

pub loop-rank-preserved : goal.loop-rank-preserved
loop-rank-preserved g c =
    let i = c.loop-rank.invariant in
    record {
      few = c.in_ok-taken.ensures.walked;
      unchanged = unchanged_then _ _ _ i.unchanged c.in_ok-taken.ensures.same;
      listed = λ images says choice.
          let before = i.listed images says choice in
          let stepped = c.in_ok-taken.ensures.stepped images (says_still c.args.choice.asked.source _ _ images i.unchanged.stands says) choice.farthest before.0 before.1 in
          let taken = subst (λ t. Steps c.args.choice.asked.wanted.now images c.args.choice.asked.level c.loop-rank.rank c.args.choice.sample before.0 t c.step.new.walk) c.in-Some.is stepped in
          let same = same_board c.args.choice.asked.level c.loop-rank.rank taken.0 c.unrank.result c.unrank.ensures.board c.unrank.ensures.stones c.unrank.ensures.rank taken.1.at.listed in
          let still = says_still c.args.choice.asked.source _ _ images i.unchanged.stands says in
          let numbers = c.numbers_of-numbers.ensures _ images (says_still c.args.choice.asked.source _ _ images c.in_ok-taken.ensures.same.stands still) taken.0 taken.1.at in (
            before.0 ++ taken.0 ∷ [],
            taken.2,
            lists-more c.args.choice.asked.wanted.now images before.0 taken.0 c.numbers_of-numbers.result _ _ _ _ _ before.2 numbers
                (subst (λ b. Passes (g.W.Write.contents c.loop-rank.writer) (g.W.Write.contents c.push_board.new.writer) c.loop-rank.batch.items c.push_board.new.batch.items (line_of c.args.choice.asked.wanted.now.form b c.numbers_of-numbers.result)) same (c.push_board.ensures c.if-not-push_board.false)),
            left-more c.args.choice.asked.wanted.now.most c.loop-rank.left c.was_last.new.left before.0 taken.0 before.3
                (λ one. let last : c.was_last.result ≡ true = c.was_last.ensures.last.1 one in cc) c.was_last.ensures.left,
          );
    }

pub returns-then-was_last-clause-printed : goal.returns-then-was_last-clause-printed
returns-then-was_last-clause-printed g c = λ images says choice done.
    let written : c.print_bytes.result ≡ true = cc in
    let i = c.loop-rank.invariant in
    let before = i.listed images says choice in
    let stepped = c.in_ok-taken.ensures.stepped images (says_still c.args.choice.asked.source _ _ images i.unchanged.stands says) choice.farthest before.0 before.1 in
    let taken = subst (λ t. Steps c.args.choice.asked.wanted.now images c.args.choice.asked.level c.loop-rank.rank c.args.choice.sample before.0 t c.step.new.walk) c.in-Some.is stepped in
    let same = same_board c.args.choice.asked.level c.loop-rank.rank taken.0 c.unrank.result c.unrank.ensures.board c.unrank.ensures.stones c.unrank.ensures.rank taken.1.at.listed in
    let still = says_still c.args.choice.asked.source _ _ images i.unchanged.stands says in
    let numbers = c.numbers_of-numbers.ensures _ images (says_still c.args.choice.asked.source _ _ images c.in_ok-taken.ensures.same.stands still) taken.0 taken.1.at in
    let others = drawn-before _ images c.args.choice.asked.level _ _ _ _ (before.0 ++ taken.0 ∷ []) taken.2.drawn in
    lists-all c.args.choice.asked.wanted.now images (before.0 ++ taken.0 ∷ []) _ _ _ _ _
    (lists-more c.args.choice.asked.wanted.now images before.0 taken.0 c.numbers_of-numbers.result _ _ _ _ _ before.2 numbers
    (subst (λ b. Passes (g.W.Write.contents c.loop-rank.writer) (g.W.Write.contents c.push_board.new.writer) c.loop-rank.batch.items c.push_board.new.batch.items (line_of c.args.choice.asked.wanted.now.form b c.numbers_of-numbers.result)) same (c.push_board.ensures c.if-not-push_board.false)))
    (first-last c.args.choice.asked.wanted.now.most c.loop-rank.left before.0 others.0 taken.0 before.3 (c.was_last.ensures.last.0 c.if-was_last.true)
    ∙ ap (first c.args.choice.asked.wanted.now.most) (taken-all _ images c.args.choice.asked.level c.args.choice ((before.0 ++ taken.0 ∷ []) ++ others.0) choice others.1))
    (rw c.as_slice.ensures.value at (c.print_bytes.ensures written))

pub returns-clause-printed : goal.returns-clause-printed
returns-clause-printed g c = λ images says choice done.
    let written : c.print_bytes-2.result ≡ true = cc in
    let all = c.loop-rank.invariant.listed images says choice in
    lists-all c.args.choice.asked.wanted.now images all.0 _ _ _ _ _ all.2
    (first-all c.args.choice.asked.wanted.now.most c.loop-rank.left all.0 all.3 ∙ ap (first c.args.choice.asked.wanted.now.most) (taken-all _ images c.args.choice.asked.level c.args.choice all.0 choice (drawn-all _ images c.args.choice.asked.level _ _ _ _ all.0 all.1.drawn (omega (arith, c.size-rank-end.ensures.boards)))))
    (rw c.as_slice-2.ensures.value at (c.print_bytes-2.ensures written))
