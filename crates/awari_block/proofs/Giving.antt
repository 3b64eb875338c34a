-- What the boards of a block are once some are given away.
use Rattle.std.proofs.Common.{◌≡◌, ℕ, ◌+◌, List, [], ◌∷◌, ◌++◌, length, map, sym, arith, length-append}
use Rattle.std.proofs.lemmas.List.{length-map}
use Rattle.std.proofs.lemmas.List.Sorted.{IsPermutation-refl, IsPermutation-sym, All-permutation, length_permutation}
use Rattle.std.specs.List.Sorted.{IsPermutation}
use Rattle.awari_block.specs.Blocks.{Due, cell_in, due_rank, times_due, unsettled, IsBlock, IsDueAs}
use Rattle.awari_block.specs.declared.cells.Cell.{Cell}
use Rattle.awari_block.specs.declared.stakes.Stake.{Stake}
use Rattle.awari_block.proofs.BlockLemmas.{popped, times_due-permuted}

abbrev pub due_at : ℕ → ℕ → Due
due_at w r = (w, r)

pub block_less : (stake : Stake) (start : ℕ) (cells : List Cell) (given rest fresh : List Due) → IsPermutation (given ++ rest) fresh → IsBlock stake start cells fresh → IsBlock stake start cells rest
block_less stake start cells [] rest fresh moved sound = record {
  fit = sound.fit;
  settled = λ r. let e = same r in let h = sound.settled r in omega (arith, e, h);
  due = All-permutation (λ (f : Due). IsDueAs stake f (cell_in start cells (due_rank f))) fresh rest (IsPermutation-sym rest fresh moved) sound.due;
}
  where
    same : (r : ℕ) → times_due rest r ≡ times_due fresh r
    same r = sym (times_due-permuted rest fresh r moved)
block_less stake start cells (f ∷ given) rest fresh moved sound =
    block_less stake start cells given rest (given ++ rest) (IsPermutation-refl (given ++ rest)) (popped stake start cells fresh (given ++ rest) f sound moved)

-- what is given away is spread
pub given_count : (w : ℕ) (given : List ℕ) (rest fresh : List Due) (spread n : ℕ) (cells : List Cell) → n ≡ length given → IsPermutation (map (λ r. (w, r)) given ++ rest) fresh
    → spread + (length fresh + unsettled cells) ≡ length cells → spread + n + (length rest + unsettled cells) ≡ length cells
given_count w given rest fresh spread n cells many moved count =
    let longer = length_permutation (map (due_at w) given ++ rest) fresh moved in
    let both = length-append (map (due_at w) given) rest in
    let long : length (map (due_at w) given) ≡ length given = length-map given (due_at w) in
    omega (arith, longer, both, long, count, many)
