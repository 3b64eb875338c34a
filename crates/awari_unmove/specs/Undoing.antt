-- What a search for quiet moves backward has still to give: what an iterator over them is seen as.
-- Its clause on a caller's side is IsPredecessors; this list only says that each call gives the next.
use Rattle.std.specs.Prelude.{◌≡◌, ℕ, zero, suc, ◌<◌, ◌+◌, ◌-◌, ◌*◌, ◌/◌, ◌%◌, ◌==◌, ◌≤◌, Bool, ◌&&◌, ◌||◌, nat_lt, nat_le, if◌then◌else◌, Option, Some, None, List, [], length, sum, slice_index, map}
use Rattle.std.specs.List.{range_with_len, cons_option}
use Rattle.awari_board.specs.Rules.{other_stones, landing, fallen, sown, captured_stones}
use lib.Pointwise.{pointwise}

-- k stones sown from pit x taken back into it
abbrev pub unsown : List ℕ → ℕ → ℕ → List ℕ
unsown back x k = map (λ i. if i == x then k else slice_index back i - fallen x k i) (range_with_len 0 12)

-- whether the board p could sow its k stones from pit x, and leaves `back` with no capture
abbrev pub is_unmove : List ℕ → ℕ → ℕ → List ℕ → Bool
is_unmove back x k p = nat_lt x 6 && nat_lt 0 k && (nat_lt 0 (other_stones p) || nat_le 6 (x + k)) && pointwise (λ a b. a == b) (sown p x) back && captured_stones back (landing x k) == 0

-- the board and pit whose move sows k stones and gives `back`, if there is one
unfoldable pub unmove : List ℕ → ℕ → ℕ → Option (List ℕ × ℕ)
unmove back x k = if is_unmove back x k (unsown back x k) then Some (unsown back x k, x) else None

-- what f gives at the n numbers from t on
unfoldable pub listed : {E : Type 0} → (ℕ → Option E) → ℕ → ℕ → List E
listed f t zero = []
listed f t (suc n) = cons_option (f t) (listed f (t + 1) n)

-- the unmoves by pits ascending, and then by stones ascending
unfoldable pub unmove_at : List ℕ → ℕ → Option (List ℕ × ℕ)
unmove_at back t = unmove back (t / 48) (t % 48 + 1)

-- those still to come, once `stones` stones of pit `pit` are taken back
unfoldable pub unmoves_after : List ℕ → ℕ → ℕ → List (List ℕ × ℕ)
unmoves_after back pit stones = listed (unmove_at back) (48 * pit + stones) (288 - (48 * pit + stones))

-- those of this pit alone that are still to come, once `stones` stones of it are taken back
unfoldable pub unmoves_from : List ℕ → ℕ → ℕ → List (List ℕ × ℕ)
unmoves_from back pit stones = listed (unmove_at back) (48 * pit + stones) (48 - stones)

-- the pits once k stones of a sowing from pit x that gave `back` are taken back into it
pub record IsUnsowing (back : List ℕ) (x k : ℕ) (pits : List ℕ) : Type 0 where
  pub size : length pits ≡ 12
  pub each : (i : ℕ) → i < 12 → slice_index pits i + fallen x k i ≡ slice_index back i + (if i == x then k else 0)
  pub stones : sum pits ≡ sum back

-- a search that has taken `stones` stones back into pit `pit`
pub record IsUndoing (back : List ℕ) (pit stones : ℕ) (left : List ℕ) : Type 0 where
  pub size : length back ≡ 12
  pub few : sum back ≤ 48
  pub in_range : pit ≤ 6
  pub unsowing : IsUnsowing back pit stones left
  pub fresh : pit ≡ 6 → stones ≡ 0

-- one more stone taken back into the empty pit x
pub record TakesBack (back : List ℕ) (x before after : ℕ) (left : List ℕ) : Type 0 where
  pub empty : slice_index back x ≡ 0
  pub more : after ≡ before + 1
  pub unsowing : IsUnsowing back x after left

-- a search in pit `pit` alone that has taken `stones` stones back, all of the own side and maybe more; the next had fallen into pit `last`
pub record IsUndoingFrom (back : List ℕ) (pit stones last : ℕ) (left : List ℕ) : Type 0 where
  pub size : length back ≡ 12
  pub few : sum back ≤ 48
  pub own : pit < 6
  pub far : 5 ≤ pit + stones
  pub unsowing : IsUnsowing back pit stones left
  pub next : last ≡ landing pit (stones + 1)
