use Rattle.std.proofs.Common.{◌≡◌, ◌+◌, ◌-◌, ◌++◌, ℕ, sum, take, refl, sym, ap, ◌∙◌, arith}
use Rattle.awari_rank.specs.Fillings.{none}
use Rattle.awari_rank.specs.Rank.{size_of}
use Rattle.awari_verify.proofs.LookLemmas.{Looks-none, Looks-some}
use Rattle.awari_verify.proofs.TileLemmas.{own_filled, own_rest, tile_more}
use Rattle.awari_verify.proofs.pieces.look_in_tile.Goals as goal

pub loop-done-init : goal.loop-done-init
loop-done-init c = record {
  looks = Looks-none _ _ _ _ (λ p board stones here. let before = here.1 in omega (arith, before));
  within = c.requires.within;
  is_board = c.unrank-filling.ensures.board;
  stones = c.unrank-filling.ensures.stones;
  ranked = λ _. c.unrank-filling.ensures.rank;
}

pub filled-requires-clause-fillings : goal.filled-requires-clause-fillings
filled-requires-clause-fillings c =
    let before = c.loop-done.invariant in
    let ranked = before.ranked c.loop-done-test.true in
    let test = c.loop-done-test.true in
    ((c.fillings-count.ensures.first c.loop-done.filling before.is_board before.stones).0 (omega (arith, ranked, test)), c.requires.filling)

pub filled-requires-clause-few : goal.filled-requires-clause-few
filled-requires-clause-few c =
    let own = c.loop-done.invariant.stones in
    let others = c.stones.ensures.stones in
    let few = c.requires.few in
    let low = c.requires.shaped.low in
    omega (arith, own, others, few, low)

pub look_in_run-found-requires-clause-stones : goal.look_in_run-found-requires-clause-stones
look_in_run-found-requires-clause-stones c =
    let both = c.filled.ensures.stones in
    let own = c.loop-done.invariant.stones in
    let others = c.stones.ensures.stones in
    let few = c.requires.few in
    omega (arith, both, own, others, few)

pub look_in_run-found-requires-clause-within : goal.look_in_run-found-requires-clause-within
look_in_run-found-requires-clause-within c = c.loop-done.invariant.within

pub loop-done-preserved : goal.loop-done-preserved
loop-done-preserved c =
    let before = c.loop-done.invariant in
    let ranked = before.ranked c.loop-done-test.true in
    let next = c.following-filling.ensures in
    let nearer = c.look_in_run-found.ensures.nearer in
    let within = before.within in
    let others = c.stones.ensures.stones in
    let own : sum c.loop-done.filling ≡ c.args.image.now.level - sum c.args.tile.now.first = before.stones ∙ ap (λ (n : ℕ). c.args.image.now.level - n) others in
    record {
      looks = tile_more _ c.args.image.now.level c.args.tile.now.count c.loop-done._done c.loop-done.filling c.args.tile.now.first c.filled.result _ _ _ before.is_board c.requires.board c.requires.filling own ranked c.filled.ensures.is before.looks c.look_in_run-found.ensures;
      within = omega (arith, nearer, within);
      is_board = next.board;
      stones = next.stones ∙ before.stones;
      ranked = λ more.
          let few = c.fillings-count.ensures.within in
          let size = ap size_of before.stones in
          next.rank (omega (arith, ranked, more, few, size)) ∙ ap (λ (n : ℕ). n + 1) ranked;
    }

pub returns : goal.returns
returns c =
    Looks-some _ _ _ _ _ _ c.loop-done.invariant.looks (λ p board stones tile.
    let half = own_filled p board in
    let others = c.stones.ensures.stones in
    let own = own_rest p c.args.image.now.level c.stones.result stones (tile.0 ∙ sym others) in
    let first = (c.fillings-count.ensures.first (none ++ take 6 p) half.board (half.stones ∙ own)).1 refl in
    let end = c.loop-done-test.false in
    (tile, omega (arith, first, end)))
