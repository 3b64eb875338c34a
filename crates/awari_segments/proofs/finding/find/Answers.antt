use Rattle.std.proofs.Common.{◌∙◌, ◌^◌, List, ℕ, refl, sym, subst, arith}
use Rattle.std.proofs.lemmas.List.{drop_all}
use Rattle.std.proofs.lemmas.List.Folds.{drop_split}
use Rattle.awari_rank.specs.Rank.{size_of}
use Rattle.awari_segments.specs.Segments.{Finds}
use Rattle.awari_segments.proofs.Ahead.{batch_ranks}
use Rattle.awari_segments.proofs.Laying.{finds_both, finds_none}
use Rattle.awari_segments.proofs.finding.find.Goals as goal

pub loop-start-init : goal.loop-start-init
loop-start-init c = record { places = refl; found = λ new finds. finds }

pub find_batch-requires-clause-ranks : goal.find_batch-requires-clause-ranks
find_batch-requires-clause-ranks c =
    let test = c.loop-start-test.true in
    let min = c.min-end.ensures in
    batch_ranks (size_of c.args.index.now) c.args.ranks.now c.loop-start.start c.min-end.result c.requires.ranks (omega (arith, test, min))

pub loop-start-preserved : goal.loop-start-preserved
loop-start-preserved c =
    let test = c.loop-start-test.true in
    let min = c.min-end.ensures in
    record {
      places = c.in_ok-find_batch.ensures.targets ∙ c.loop-start.invariant.places;
      found = λ new finds.
          c.loop-start.invariant.found new
          (subst (λ (rs : List ℕ). Finds c.args.index.now (2 ^ c.args.log) rs c.loop-start.lists new) (sym (drop_split c.args.ranks.now c.loop-start.start c.min-end.result (omega (arith, test, min))))
          (finds_both c.args.index.now (2 ^ c.args.log) _ _ _ _ _ c.in_ok-find_batch.ensures.found finds));
    }

pub returns-clause-found : goal.returns-clause-found
returns-clause-found c =
    c.loop-start.invariant.found c.loop-start.lists
    (subst (λ (rs : List ℕ). Finds c.args.index.now (2 ^ c.args.log) rs c.loop-start.lists c.loop-start.lists) (sym (drop_all c.loop-start.start c.args.ranks.now c.loop-start-test.false))
    (finds_none c.args.index.now (2 ^ c.args.log) c.loop-start.lists))
