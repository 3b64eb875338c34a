use Rattle.std.proofs.Common.{◌≡◌, ◌<◌, ◌∙◌, ap, subst, arith, length, List, rules}
use Rattle.std.proofs.lemmas.List.{get_or_default}
use Rattle.awari_rank.specs.Rank.{size_of}
use Rattle.awari_table.specs.declared.images.Entry.{Entry}
use Rattle.awari_table.specs.Images.{no_entry, table_of}
use Rattle.awari_play.specs.Plan.{IsLowest}
use Rattle.awari_play.specs.Planning.{with_top}
use Rattle.awari_play.proofs.Tables.{same_set, planned_more, same_settled, planned_none}
use Rattle.awari_play.proofs.plans.set_lowest_plans.Goals as goal

pub loop-rank-init : goal.loop-rank-init
loop-rank-init c = record {
  same = same_settled c.args.entries.now.items;
  planned = planned_none c.args.shelf.now c.args.entries.now.items c.args.entries.now.items;
  is_board = c.unrank-board.ensures.board;
  stones = c.unrank-board.ensures.stones ∙ c.levels-level.ensures.levels;
  ranked = λ _. c.unrank-board.ensures.rank;
}

pub loop-rank-preserved : goal.loop-rank-preserved
loop-rank-preserved c =
    let before = c.loop-rank.invariant in
    let ranked = before.ranked c.loop-rank-test.true in
    let put : Entry = record { value = c.index_mut.result.now.value; plan = c.lowest_plan-plan.result; dist = c.index_mut.result.now.dist } in
    let boards : size_of c.levels-level.result ≡ size_of (length c.args.shelf.now) = ap size_of c.levels-level.ensures.levels in
    let inside : c.loop-rank.rank < length c.loop-rank.entries.items = omega (arith, boards, before.same.size, c.size-boards.ensures.boards, c.requires.sized, c.loop-rank-test.true) in
    let was = c.index_mut.ensures.value ∙ get_or_default c.loop-rank.entries.items c.loop-rank.rank c.index_mut.result.now no_entry inside in
    let lowest = subst (λ (es : List Entry). IsLowest (table_of (with_top c.args.shelf.now es)) c.loop-rank.board put.plan) c.as_slice.ensures.value c.lowest_plan-plan.ensures in
    record {
      same = same_set _ _ _ put before.same inside (ap (λ e. e.value) was) (ap (λ e. e.dist) was);
      planned = planned_more _ _ _ _ _ put before.same before.planned inside before.is_board before.stones ranked lowest;
      is_board = search rules;
      stones = search rules;
      ranked = search rules;
    }
