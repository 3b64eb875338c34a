-- What settles boards and does no more: nothing at all, two such steps, and a cell that is put.
use Rattle.std.proofs.Common.{◌≡◌, ℕ, ◌+◌, ◌-◌, Bool, true, false, not, ◌&&◌, cond, ℤ, inl, inr, List, [], ◌∷◌, length, All, set, refl, sym, ap, subst, subst₂, ◌∙◌, arith, length-set}
use Rattle.std.proofs.lemmas.Bool.{false≢true}
use Rattle.std.proofs.lemmas.Int.{ints}
use Rattle.std.proofs.lemmas.List.Elements.{All-head, All-tail}
use Rattle.std.proofs.lemmas.List.Sorted.{length_permutation}
use Rattle.std.proofs.lemmas.List.Sums.{sum_by-cons}
use Rattle.std.specs.List.Sorted.{IsPermutation}
use Rattle.awari_block.specs.declared.cells.Cell.{Cell}
use Rattle.awari_block.specs.declared.stakes.Stake.{Stake}
use Rattle.awari_block.specs.declared.cells.Mark.{Mark}
use Rattle.awari_block.specs.declared.cells.Mark.TheVariants as mark
use Rattle.awari_block.specs.Cells.{is_settled, FitsBy, Keeps}
use Rattle.awari_block.specs.Blocks.{Due, cell_in, is_settled_in, unsettled, IsBlock}
use Rattle.awari_block.specs.Part.{Part, part_of, SameLevel}
use Rattle.awari_block.specs.Boards.{CanPut, Joins, JoinsIf, Settles, stake_of}
use Rattle.awari_block.proofs.BlockLemmas.{keeps_both, keeps_same, one_if, put_joined, put_joins, put_kept, put_stays, put_unspread}
use Rattle.awari_block.proofs.Freshness.{fresh_of_block}

-- a part at the stake of another is at its own
pub same_stake : (old new : Part) → SameLevel old new → part_of (stake_of old) old.start new.cells new.fresh ≡ new
same_stake old new same =
    ap (λ n. record { level = n; gain = old.gain; wave = old.wave; start = old.start; cells = new.cells; fresh = new.fresh }) (sym same.level)
    ∙ ap (λ n. record { level = new.level; gain = n; wave = old.wave; start = old.start; cells = new.cells; fresh = new.fresh }) (sym same.gain)
    ∙ ap (λ n. record { level = new.level; gain = new.gain; wave = n; start = old.start; cells = new.cells; fresh = new.fresh }) (sym same.wave)
    ∙ ap (λ n. record { level = new.level; gain = new.gain; wave = new.wave; start = n; cells = new.cells; fresh = new.fresh }) (sym same.start)

-- nothing changes
pub settles_none : (part : Part) → Settles part part
settles_none part = record {
  same = record { level = refl; gain = refl; wave = refl; start = refl };
  size = refl;
  stays = λ r low. keeps_same (cell_in part.start part.cells r) (cell_in part.start part.cells r) refl;
  joins = λ r. refl;
  unspread = refl;
  fresh = λ are. are;
}

-- one step after the other
pub settles_both : (a b c : Part) → Settles a b → Settles b c → Settles a c
settles_both a b c one two =
    let start = one.same.start in
    record {
      same = record { level = two.same.level ∙ one.same.level; gain = two.same.gain ∙ one.same.gain; wave = two.same.wave ∙ one.same.wave; start = two.same.start ∙ start };
      size = two.size ∙ one.size;
      stays = λ r low. keeps_both (cell_in a.start a.cells r) (cell_in a.start b.cells r) (cell_in a.start c.cells r) (one.stays r low)
          (subst (λ s. Keeps (cell_in s b.cells r) (cell_in s c.cells r)) start (two.stays r (omega (arith, start, low))));
      joins = λ r.
          let more = two.joins r in
          let first = one.joins r in
          let settled_b = ap (λ s. one_if (is_settled_in s b.cells r)) start in
          let settled_c = ap (λ s. one_if (is_settled_in s c.cells r)) start in
          omega (arith, more, first, settled_b, settled_c);
      unspread = two.unspread ∙ one.unspread;
      fresh = λ are. two.fresh (one.fresh are);
    }

-- ---- before any gain is open

open_by : (m : Mark) (n : ℕ) (score : ℤ) (dist : ℕ) → FitsBy m n (n + 1) score dist → is_settled m ≡ false
open_by mark.Settled n score dist (within, beyond) = absurd (elim beyond [
  | inl won ↦ let high = within.1 in omega (arith, ints, won, high)
  | inr lost ↦ let low = within.0 in omega (arith, ints, lost, low)
])
open_by mark.Quiet n score dist fits = refl
open_by mark.Capturing n score dist fits = refl
open_by mark.Noted n score dist fits = refl
open_by mark.Ended n score dist fits = refl

-- no board is settled
pub none_settled : (n : ℕ) (cells : List Cell) → All (λ c. FitsBy c.mark n (n + 1) c.score c.dist) cells → unsettled cells ≡ length cells
none_settled n [] fit = refl
none_settled n (c ∷ cells) fit =
    let rest = none_settled n cells (All-tail (λ (d : Cell). FitsBy d.mark n (n + 1) d.score d.dist) c cells fit) in
    let here : one_if (not (is_settled c.mark)) ≡ 1 = ap (λ b. one_if (not b)) (open_by c.mark n c.score c.dist (All-head (λ (d : Cell). FitsBy d.mark n (n + 1) d.score d.dist) c cells fit)) in
    let sums = sum_by-cons (λ (d : Cell). cond (not (is_settled d.mark)) 1 0) c cells in
    omega (arith, rest, here, sums)

-- ---- a cell that is put

-- what is not newly settled doesn't join
pub not_new : (a b : Bool) → (a ≡ true → b ≡ true) → (a && not b) ≡ false
not_new true b back = ap not (back refl)
not_new false b back = refl

-- and is settled as before
pub alike : (old new : Cell) → Keeps old new → (b : Bool) → is_settled old.mark ≡ b → (is_settled new.mark ≡ true → b ≡ true) → is_settled new.mark ≡ is_settled old.mark
alike old new keeps true was back = ap is_settled (keeps was).0
alike old new keeps false was back = by (is_settled new.mark) refl
  where
    by : (b : Bool) → is_settled new.mark ≡ b → is_settled new.mark ≡ is_settled old.mark
    by true e = absurd (false≢true (back e))
    by false e = e ∙ sym was

module _ (stake : Stake) (start : ℕ) (cells : List Cell) (fresh : List Due) (sound : IsBlock stake start cells fresh) (rank : ℕ) (c : Cell) (can : CanPut (part_of stake start cells fresh) rank c) where
  abbrev was : Cell
  was = cell_in start cells rank

  abbrev after : List Cell
  after = set cells (rank - start) c

  put_settles : (rest : List Due) → Joins was c rank fresh rest → IsBlock stake start after rest → length rest + one_if (not (is_settled c.mark)) ≡ length fresh + one_if (not (is_settled was.mark))
      → Settles (part_of stake start cells fresh) (part_of stake start after rest)
  put_settles rest joins block step = record {
    same = record { level = refl; gain = refl; wave = refl; start = refl };
    size = length-set cells (rank - start) c;
    stays = put_stays start cells rank c can.held.0 can.held.1 can.steps.keeps;
    joins = put_joins stake start cells fresh rank c can.held.0 can.held.1 sound rest can.steps.keeps joins;
    unspread = put_unspread start cells fresh rest rank c can.held.1 step;
    fresh = λ _. fresh_of_block stake start after rest block;
  }

  -- a newly settled board joins the fresh ones
  module _ (new : is_settled c.mark ≡ true) (unset : is_settled was.mark ≡ false) (rest : List Due) (moved : IsPermutation ((c.dist, rank) ∷ fresh) rest) where
    pub joined_block : IsBlock stake start after rest
    joined_block = put_joined stake start cells fresh rank c can.held.0 can.held.1 sound rest can.steps.fits (can.steps.timely unset new) can.steps.keeps new unset moved

    pub joined : Joins was c rank fresh rest
    joined = subst₂ (λ a b. JoinsIf (a && not b) c rank fresh rest) (sym new) (sym unset) moved

    pub joined_settles : Settles (part_of stake start cells fresh) (part_of stake start after rest)
    joined_settles =
        let longer = length_permutation ((c.dist, rank) ∷ fresh) rest moved in
        let some : one_if (not (is_settled c.mark)) ≡ 0 = ap (λ b. one_if (not b)) new in
        let none : one_if (not (is_settled was.mark)) ≡ 1 = ap (λ b. one_if (not b)) unset in
        put_settles rest joined joined_block (omega (arith, some, none, longer))

  -- and else they stay
  module _ (back : is_settled c.mark ≡ true → is_settled was.mark ≡ true) where
    same_mark : is_settled c.mark ≡ is_settled was.mark
    same_mark = alike was c can.steps.keeps (is_settled was.mark) refl back

    pub kept_block : IsBlock stake start after fresh
    kept_block = put_kept stake start cells fresh rank c can.held.0 can.held.1 sound can.steps.fits can.steps.keeps same_mark

    pub kept : Joins was c rank fresh fresh
    kept = subst (λ b. JoinsIf b c rank fresh fresh) (sym (not_new (is_settled c.mark) (is_settled was.mark) back)) refl

    pub kept_settles : Settles (part_of stake start cells fresh) (part_of stake start after fresh)
    kept_settles = put_settles fresh kept kept_block (let same = ap (λ b. one_if (not b)) same_mark in omega (arith, same))
