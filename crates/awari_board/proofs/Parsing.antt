-- One text for each board, and one board for each text.
use Rattle.std.proofs.Common.{◌≡◌, ℕ, ◌<◌, ⊎_elim, false, true, List, [], ◌∷◌, ◌++◌, All, length, get_or, sum, map, filter, Contains, refl, sym, ap, ◌∙◌, subst, arith}
use Rattle.std.specs.List.{range_with_len, slice_split}
use Rattle.std.proofs.lemmas.List.{append-nil}
use Rattle.std.proofs.lemmas.List.Elements.{Contains-push, Contains-append_left}
use Rattle.std.proofs.lemmas.List.Splits.{slice_split_none, slice_split_at}
use Rattle.awari_board.proofs.Scanning.{IsReading}
use Rattle.std.proofs.lemmas.Bool.{cases_lt}
use Rattle.std.proofs.lemmas.Grind.{same_number_lists}
use Rattle.std.proofs.lemmas.List.FromFn.{get_or-map-range_with_len}
use Rattle.std.proofs.lemmas.List.Sums.{get_or-le-sum_by}
use Rattle.std.proofs.Math.ListN.{get_or-eq_default}
use Rattle.awari_board.specs.Rules.{IsBoard}
use Rattle.awari_board.specs.Text.{digits, text_to, is_separator, text_of, fields, IsShaped, IsReadAs}
use Rattle.awari_board.specs.BoardFault.{IsFaulty}
use Rattle.awari_board.specs.declared.text.BoardFault.{BoardFault}
use Rattle.awari_board.specs.declared.text.BoardFault.TheVariants.{Shape, Number, TooMany}
use Rattle.awari_board.proofs.Reading.{fields-text_from, marks-text_from, same_digits}

pub small-from_IsBoard : (b : List ℕ) → IsBoard b → (k : ℕ) → get_or b k 0 < 100
small-from_IsBoard b whole k =
    ⊎_elim
    (λ inside. omega (arith, get_or-le-sum_by (λ s. s) b k 0 (omega (arith, whole.pits, inside)), whole.stones))
    (λ past. omega (arith, get_or-eq_default b 0 {n = k} (omega (arith, whole.pits, past))))
    (cases_lt k 12)

fields-text_of : (b : List ℕ) → ((k : ℕ) → get_or b k 0 < 100) → fields (text_of b) ≡ map (λ k. digits (get_or b k 0)) (range_with_len 0 12)
unfolding text_of
fields-text_of b small = fields-text_from b 11 0 refl small

pub same_text : (a b : List ℕ) → length a ≡ 12 → length b ≡ 12 → ((k : ℕ) → get_or a k 0 < 100) → ((k : ℕ) → get_or b k 0 < 100) → text_of a ≡ text_of b → a ≡ b
same_text a b size_a size_b small_a small_b same =
    let e : map (λ k. digits (get_or a k 0)) (range_with_len 0 12) ≡ map (λ k. digits (get_or b k 0)) (range_with_len 0 12) = sym (fields-text_of a small_a) ∙ ap fields same ∙ fields-text_of b small_b in
    same_number_lists a b (size_a ∙ sym size_b)
    (λ k inside.
    let here : k < 12 = omega arith in
    same_digits (get_or a k 0) (get_or b k 0)
    (sym (get_or-map-range_with_len (λ k. digits (get_or a k 0)) 0 12 k k [] here (omega arith)) ∙ ap (λ xs. get_or xs k []) e ∙ get_or-map-range_with_len (λ k. digits (get_or b k 0)) 0 12 k k [] here (omega arith)))

shaped-text_of : (b : List ℕ) → ((k : ℕ) → get_or b k 0 < 100) → IsShaped (text_of b)
unfolding text_of
shaped-text_of b small = marks-text_from b 12 0 small

-- a text of twelve numbers has the right shape, and each field is a number
shaped-from_IsReadAs : (text counts : List ℕ) → IsReadAs text counts → IsShaped text
shaped-from_IsReadAs text counts read = ap (filter is_separator) read.read ∙ shaped-text_of counts read.small

numbers-from_IsReadAs : (text counts : List ℕ) → IsReadAs text counts → IsFaulty text Number → ⊥
numbers-from_IsReadAs text counts read (_, field, has, none) =
    let e : fields text ≡ map (λ k. digits (get_or counts k 0)) (range_with_len 0 12) = ap fields read.read ∙ fields-text_of counts read.small in
    let k : ℕ = has.0 in
    let here : k < 12 = omega (arith, has.1, ap (λ xs. length xs) e) in
    let is_field : field ≡ digits (get_or counts k 0) = sym has.2 ∙ ap (λ xs. get_or xs k field) e ∙ get_or-map-range_with_len (λ k. digits (get_or counts k 0)) 0 12 k k field here (omega arith) in
    none (get_or counts k 0) (read.small k) is_field

read-from_IsBoard : (text b : List ℕ) → IsBoard b → text ≡ text_of b → IsReadAs text b
read-from_IsBoard text b whole is = record { size = whole.pits; small = small-from_IsBoard b whole; read = is }

-- the text of a board is at no fault
pub fine : (text b : List ℕ) (fault : BoardFault) → IsFaulty text fault → IsBoard b → text ≡ text_of b → ⊥
fine text b Shape wrong whole is = wrong (shaped-from_IsReadAs text b (read-from_IsBoard text b whole is))
fine text b Number wrong whole is = numbers-from_IsReadAs text b (read-from_IsBoard text b whole is) wrong
fine text b TooMany (counts, read, many) whole is =
    let same : counts ≡ b = same_text counts b read.size whole.pits read.small (small-from_IsBoard b whole) (sym read.read ∙ is) in
    omega (arith, many, ap sum same, whole.stones)

-- at most one fault is due
pub one_fault : (text : List ℕ) (fault other : BoardFault) → IsFaulty text fault → IsFaulty text other → fault ≡ other
one_fault text Shape Shape _ _ = refl
one_fault text Shape Number wrong other = absurd (wrong other.0)
one_fault text Shape TooMany wrong (counts, read, _) = absurd (wrong (shaped-from_IsReadAs text counts read))
one_fault text Number Shape wrong other = absurd (other wrong.0)
one_fault text Number Number _ _ = refl
one_fault text Number TooMany wrong (counts, read, _) = absurd (numbers-from_IsReadAs text counts read wrong)
one_fault text TooMany Shape (counts, read, _) other = absurd (other (shaped-from_IsReadAs text counts read))
one_fault text TooMany Number (counts, read, _) other = absurd (numbers-from_IsReadAs text counts read other)
one_fault text TooMany TooMany _ _ = refl

pub only-read : (text pits : List ℕ) → IsReadAs text pits → (b : List ℕ) → IsBoard b → text ≡ text_of b → pits ≡ b
only-read text pits read b whole is = same_text pits b read.size whole.pits read.small (small-from_IsBoard b whole) (sym read.read ∙ is)

pub IsReadAs-from_IsReading : (text pits rest : List ℕ) (i : ℕ) → IsReading text i pits rest → i ≡ 12 → IsReadAs text pits
unfolding text_of
IsReadAs-from_IsReading text pits rest i all end = record {
  size = all.size;
  small = all.small;
  read = all.read ∙ ap (λ r. text_to pits i ++ r) (all.done end) ∙ append-nil (text_to pits i) ∙ ap (text_to pits) end;
}

-- a field that is no number is a fault
pub IsFaulty-from_field : (text pits rest field others : List ℕ) (i : ℕ) → IsShaped text → IsReading text i pits rest → i < 12 → Contains (fields rest) field → ((n : ℕ) → n < 100 → field ≡ digits n → ⊥) → IsFaulty text Number
IsFaulty-from_field text pits rest field others i shape before own has none = (shape, field, before.within own field has, none)

-- the first field is a field
pub Contains-fields : (rest field others : List ℕ) → rest ≡ field ++ others → All (λ b. is_separator b ≡ false) field → (0 < length others → is_separator (get_or others 0 0) ≡ true) → Contains (fields rest) field
Contains-fields rest field [] parts plain stop = subst (λ fs. Contains fs field) (sym (ap (slice_split is_separator) (parts ∙ append-nil field) ∙ slice_split_none is_separator field plain)) (Contains-push [] field)
Contains-fields rest field (m ∷ tail) parts plain stop =
    subst (λ fs. Contains fs field) (sym (ap (slice_split is_separator) parts ∙ slice_split_at is_separator field m tail plain (stop (omega arith)))) (Contains-append_left (field ∷ []) (slice_split is_separator tail) field (Contains-push [] field))
