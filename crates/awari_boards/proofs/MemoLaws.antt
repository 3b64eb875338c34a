-- What is kept of boards stays right when one more is kept.
use Rattle.std.proofs.Common.{◌≡◌, ℕ, Bool, true, false, cond, nat_eq, List, Option, Some, None, refl, sym, subst}
use Rattle.std.proofs.lemmas.Bool.{eqb-true}
use Rattle.std.proofs.lemmas.Slice.Eq.{bytes_eq-Decides}
use Rattle.std.specs.Cmp.{first_so, second_so}
use Rattle.std.specs.Prelude.{IfSome, bytes_eq}
use Rattle.std.specs.HashMap.{HashMap, get, Updates}
use Rattle.awari_boards.specs.Memo.{AreCounted, Standing, is_same}
use Rattle.awari_boards.specs.Plays.{AreCounts}
use Rattle.awari_boards.specs.declared.sums.PlayCounts.{PlayCounts}

pub for_each_before : (plies : ℕ) (board : List ℕ) (found : Option PlayCounts) → ((before : ℕ) → IfSome found (AreCounts plies before board)) → IfSome found (λ counts. (before : ℕ) → AreCounts plies before board counts)
for_each_before plies board None all = all 0
for_each_before plies board (Some counts) all = all

pub are_counted_more : {S : Type 0} (old new : HashMap Standing PlayCounts S) (board : List ℕ) (plies : ℕ) (counts : PlayCounts) → AreCounted old → ((before : ℕ) → AreCounts plies before board counts)
    → Updates is_same old new (board, plies) (Some counts) → AreCounted new
are_counted_more old new board plies counts are here updates b n before = subst (λ found. IfSome found (AreCounts n before b)) (sym (updates.0 (b, n))) (go (is_same (board, plies) (b, n)) refl)
  where
    go : (same : Bool) → is_same (board, plies) (b, n) ≡ same → IfSome (cond same (Some counts) (get is_same old (b, n))) (AreCounts n before b)
    go false e = are b n before
    go true e =
        let board_is : board ≡ b = (bytes_eq-Decides board b).0 (first_so (bytes_eq board b) (nat_eq plies n) e) in
        let plies_are : plies ≡ n = eqb-true plies n (second_so (bytes_eq board b) (nat_eq plies n) e) in
        subst (λ k. AreCounts k before b counts) plies_are (subst (λ p. AreCounts plies before p counts) board_is (here before))
