use mir.Syntax.{w64}
use mir.Val.{of_z, to_z}
use Rattle.std.proofs.Common.{◌≡◌, ◌≤◌, ◌<◌, [], ◌∷◌, ◌++◌, All, Some, ap, arith, map, rules, subst, sym, ◌∙◌}
use Rattle.std.proofs.lemmas.List.Elements.{All-append, All-cons, All-nil}
use Rattle.awari_facts.proofs.FactLaws.{rank_listed}
use Rattle.awari_facts.proofs.SourceLaws.{says_still}
use Rattle.awari_folder.proofs.States.{unchanged, unchanged_then}
use Rattle.awari_queries.specs.Holding.{first, number_of, sorted}
use Rattle.awari_queries.specs.declared.holding.Held.{Held}
use Rattle.awari_rank.specs.Rank.{rank_of, size_of}
use Rattle.awari_levels.proofs.HeldLaws.{all-first, held-all, held-more, listed_of, one_held}
use Rattle.awari_levels.proofs.WalkLaws.{drawn-all, taken-all}
use Rattle.awari_levels.specs.Walks.{IsListed, Steps, held_of}
use Rattle.awari_levels.proofs.listing.hold_taken.Goals as goal

pub loop-rank-init : goal.loop-rank-init
loop-rank-init g c = record {
  few = omega (arith, c.in_ok-walk.ensures.none);
  most = c.new-holding.ensures.most;
  unchanged = unchanged _;
  ranks = ([], c.new-holding.ensures.none, All-nil _);
  held = λ images says choice. (
    [],
    c.in_ok-walk.ensures.walked c.args.choice.asked.wanted.now images c.args.choice.asked.level,
    c.new-holding.ensures.none,
    All-nil _,
  );
}

pub loop-rank-preserved-in_default : goal.loop-rank-preserved-in_default
loop-rank-preserved-in_default g c =
    let i = c.loop-rank.invariant in
    record {
      few = c.in_ok-taken.ensures.walked;
      most = i.most;
      unchanged = unchanged_then _ _ _ i.unchanged c.in_ok-taken.ensures.same;
      ranks = i.ranks;
      held = λ images says choice.
          let before = i.held images says choice in
          let stepped = c.in_ok-taken.ensures.stepped images (says_still c.args.choice.asked.source _ _ images i.unchanged.stands says) choice.farthest before.0 before.1 in
          (before.0, subst (λ t. Steps c.args.choice.asked.wanted.now images c.args.choice.asked.level c.loop-rank.rank c.args.choice.sample before.0 t c.step.new.walk) c.in_default.is stepped, before.2, before.3);
    }

pub loop-rank-preserved : goal.loop-rank-preserved
loop-rank-preserved g c =
    let i = c.loop-rank.invariant in
    let low : c.args.choice.asked.level ≤ 24 = omega (arith, c.requires.level.known, c.requires.level.few) in
    let inside : c.loop-rank.rank < size_of c.args.choice.asked.level = omega (arith, c.loop-rank-test.true, c.size-rank-end.ensures.boards) in
    let back : to_z w64 (of_z w64 c.in-Some.taken.key) ≡ c.in-Some.taken.key = search rules in
    let one : Held = record { number = to_z w64 (of_z w64 c.in-Some.taken.key); rank = c.loop-rank.rank } in
    record {
      few = c.in_ok-taken.ensures.walked;
      most = c.hold.ensures.most ∙ i.most;
      unchanged = unchanged_then _ _ _ i.unchanged c.in_ok-taken.ensures.same;
      ranks = (
        i.ranks.0 ++ one ∷ [],
        c.in-Ok.ensures.held i.ranks.0 i.ranks.1,
        All-append (λ (h : Held). h.rank < size_of c.args.choice.asked.level) i.ranks.0 (one ∷ []) i.ranks.2 (All-cons (λ (h : Held). h.rank < size_of c.args.choice.asked.level) one [] inside (All-nil (λ (h : Held). h.rank < size_of c.args.choice.asked.level))),
      );
      held = λ images says choice.
          let before = i.held images says choice in
          let stepped = c.in_ok-taken.ensures.stepped images (says_still c.args.choice.asked.source _ _ images i.unchanged.stands says) choice.farthest before.0 before.1 in
          let taken = subst (λ t. Steps c.args.choice.asked.wanted.now images c.args.choice.asked.level c.loop-rank.rank c.args.choice.sample before.0 t c.step.new.walk) c.in-Some.is stepped in
          let ranked : c.loop-rank.rank ≡ rank_of taken.0 = rank_listed c.args.choice.asked.level c.loop-rank.rank taken.0 low inside taken.1.at.listed in (
            before.0 ++ taken.0 ∷ [],
            taken.2,
            held-more c.args.choice.asked.wanted.now images before.0 taken.0 one c.hold.new.self (one_held c.args.choice.asked.wanted.now images taken.0 one (ap (λ k. Some k) back ∙ taken.1.key) ranked)
                (c.in-Ok.ensures.held (map (held_of c.args.choice.asked.wanted.now images) before.0) before.2),
            All-append (IsListed c.args.choice.asked.level) before.0 (taken.0 ∷ []) before.3 (All-cons (IsListed c.args.choice.asked.level) taken.0 [] (listed_of c.args.choice.asked.level c.loop-rank.rank taken.0 ranked taken.1.at.listed) (All-nil _)),
          );
    }

pub returns-in-Ok-into_first-clause-held : goal.returns-in-Ok-into_first-clause-held
returns-in-Ok-into_first-clause-held g c = λ images says choice order asked.
    let all = c.loop-rank.invariant.held images says choice in
    held-all c.args.choice.asked.wanted.now images c.args.choice.asked.level order all.0 _ asked
    (taken-all _ images c.args.choice.asked.level c.args.choice all.0 choice (drawn-all _ images c.args.choice.asked.level _ _ _ _ all.0 all.1.drawn (omega (arith, c.size-rank-end.ensures.boards))))
    (subst (λ m. c.in-Ok-into_first.held.items ≡ first m (sorted number_of (map (held_of c.args.choice.asked.wanted.now images) all.0))) c.loop-rank.invariant.most (c.in-Ok-into_first.ensures (map (held_of c.args.choice.asked.wanted.now images) all.0) all.2))
    all.3

pub returns-in-Ok-into_first-clause-few : goal.returns-in-Ok-into_first-clause-few
returns-in-Ok-into_first-clause-few g c =
    let ranks = c.loop-rank.invariant.ranks in
    subst (All (λ (h : Held). h.rank < size_of c.args.choice.asked.level)) (sym (c.in-Ok-into_first.ensures ranks.0 ranks.1)) (all-first (λ (h : Held). h.rank < size_of c.args.choice.asked.level) c.loop-rank.holding.most number_of ranks.0 ranks.2)
