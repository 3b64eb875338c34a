-- What is known of a board, pit by pit.
use Rattle.std.proofs.Common.{◌≡◌, ◌↔◌, ℕ, ◌+◌, ◌<◌, ◌≤◌, Bool, true, false, cond, List, ◌++◌, ◌∷◌, [], count_by, fold, take, slice_get, Some, None, ℤ, pos, ◌-ℤ◌, ap, sym, ◌∙◌, refl, max, sum, zero-add, arith}
use Rattle.std.proofs.lemmas.Bool.{false≢true}
use Rattle.std.proofs.lemmas.List.Sums.{fold-append, sum_by-append}
use Rattle.std.specs.List.{range_with_len}
use Rattle.awari_board.proofs.Falling.{range-more}
use Rattle.awari_board.proofs.Legal.{legal_is, not_legal}
use Rattle.awari_board.specs.Rules.{IsBoard, IsLegal, IsMove, captured, next_board}
use Rattle.awari_board.specs.Tests.{is_legal}
use Rattle.awari_rank.proofs.Ranking.{listed_board}
use Rattle.awari_rank.proofs.Reaching.{board_reached}
use Rattle.awari_rank.specs.Rank.{rank_of, size_of}
use Rattle.awari_rank.specs.Tuples.{tuples}
use Rattle.awari_table.proofs.ShelfLemmas.{take-read}
use Rattle.awari_table.specs.Images.{entry_of}
use Rattle.awari_table.specs.declared.images.Image.{Image}
use Rattle.awari_facts.specs.Facts.{captured_by, captures_by, gained_by, most_of}
use Rattle.awari_facts.specs.declared.looks.Gained.{Gained}

range-next : (n : ℕ) → range_with_len 0 (n + 1) ≡ range_with_len 0 n ++ n ∷ []
range-next n = range-more 0 n ∙ ap (λ k. range_with_len 0 n ++ k ∷ []) (zero-add n)

-- the count over one more number
pub count-more : (p : ℕ → Bool) (n : ℕ) → count_by p (range_with_len 0 (n + 1)) ≡ count_by p (range_with_len 0 n) + cond (p n) 1 0
count-more p n = ap (count_by p) (range-next n) ∙ sum_by-append (λ x. cond (p x) 1 0) (range_with_len 0 n) (n ∷ []) ∙ omega arith

pub count-next : (p : ℕ → Bool) (n count next : ℕ) (b : Bool) → count ≡ count_by p (range_with_len 0 n) → b ≡ p n → next ≡ count + cond b 1 0 → next ≡ count_by p (range_with_len 0 (n + 1))
count-next p n count next b before is more =
    more ∙ ap (λ b. count + cond b 1 0) is ∙ ap (λ c. c + cond (p n) 1 0) before ∙ sym (count-more p n)

-- ---- a pit

pub legal-test : (board : List ℕ) (x : ℕ) (b : Bool) → (b ≡ true) ↔ IsLegal board x → b ≡ is_legal board x
legal-test board x true test = sym ((legal_is board x).1 (test.0 refl))
legal-test board x false test = sym (not_legal board x (λ legal. false≢true (test.1 legal)))

pub captures-legal : (board : List ℕ) (x c : ℕ) (next : List ℕ) → IsMove board x c next → Some c ≡ captures_by board (Some x)
captures-legal board x c next move =
    ap (λ n. Some n) move.captures ∙ sym (ap (λ b. cond b (Some (captured board x)) None) ((legal_is board x).1 move.legal))

pub captures-none : (board : List ℕ) (x : ℕ) → (IsLegal board x → ⊥) → None ≡ captures_by board (Some x)
captures-none board x none = sym (ap (λ b. cond b (Some (captured board x)) None) (not_legal board x none))

pub captured-none : (board : List ℕ) (x : ℕ) → (IsLegal board x → ⊥) → 0 ≡ captured_by board x
captured-none board x none = sym (ap (λ b. cond b (captured board x) 0) (not_legal board x none))

-- the most that the moves from one more pit capture
pub most-next : (board : List ℕ) (n most taken next : ℕ) → most ≡ most_of board (range_with_len 0 n) → taken ≡ captured_by board n → next ≡ max most taken → next ≡ most_of board (range_with_len 0 (n + 1))
most-next board n most taken next before is more =
    more ∙ ap (max most) is ∙ ap (λ m. max m (captured_by board n)) before
    ∙ sym (ap (most_of board) (range-next n) ∙ fold-append (λ m x. max m (captured_by board x)) 0 (range_with_len 0 n) (n ∷ []))

abbrev gain : List Image → List ℕ → ℕ → Gained
gain images board x = record { captured = captured board x; value = pos (captured board x) -ℤ (entry_of images (next_board board x)).value }

pub gained-none : (images : List Image) (board : List ℕ) (x : ℕ) → (IsLegal board x → ⊥) → None ≡ gained_by images board x
gained-none images board x none = sym (ap (λ b. cond b (Some (gain images board x)) None) (not_legal board x none))

pub gained-legal : (images : List Image) (board : List ℕ) (x c : ℕ) (next : List ℕ) (v : ℤ) (g : Gained) → IsMove board x c next → v ≡ (entry_of images next).value → g.captured ≡ c → g.value ≡ pos c -ℤ v
    → Some g ≡ gained_by images board x
gained-legal images board x c next v g move says takes worth =
    let same : g ≡ gain images board x = whole g (captured board x) _ (takes ∙ move.captures)
    (worth ∙ ap (λ n. pos n -ℤ v) move.captures ∙ ap (λ u. pos (captured board x) -ℤ u) (says ∙ ap (λ b. (entry_of images b).value) move.leaves)) in
    ap (λ h. Some h) same ∙ sym (ap (λ b. cond b (Some (gain images board x)) None) ((legal_is board x).1 move.legal))
  where
    whole : (g : Gained) (c : ℕ) (v : ℤ) → g.captured ≡ c → g.value ≡ v → g ≡ record { captured = c; value = v }
    whole g c v captures gains = ap (λ n. record { captured = n; value = g.value }) captures ∙ ap (λ w. record { captured = c; value = w }) gains

-- ---- moves one by one

pub count-take : {A : Type 0} (p : A → Bool) (xs : List A) (n count next : ℕ) (x : A) (b : Bool) → slice_get xs n ≡ Some x → count ≡ count_by p (take n xs) → b ≡ p x → next ≡ count + cond b 1 0
    → next ≡ count_by p (take (n + 1) xs)
count-take p xs n count next x b there before is more =
    more ∙ ap (λ b. count + cond b 1 0) is ∙ ap (λ c. c + cond (p x) 1 0) before
    ∙ sym (ap (count_by p) (take-read xs n x there) ∙ sum_by-append (λ y. cond (p y) 1 0) (take n xs) (x ∷ []) ∙ omega arith)

pub fold-take : {A : Type 0} {B : Type 0} (f : B → A → B) (start : B) (xs : List A) (n : ℕ) (x : A) → slice_get xs n ≡ Some x → fold f start (take (n + 1) xs) ≡ f (fold f start (take n xs)) x
fold-take f start xs n x there = ap (fold f start) (take-read xs n x there) ∙ fold-append f start (take n xs) (x ∷ [])

-- ---- ranks

-- the board of a rank is the one that is unranked
pub same_board : (level rank : ℕ) (board other : List ℕ) → IsBoard other → sum other ≡ level → rank_of other ≡ rank → slice_get (tuples 12 level) rank ≡ Some board → other ≡ board
same_board level rank board other whole stones ranked listed =
    let there : slice_get (tuples 12 level) rank ≡ Some other = rw (stones, ranked) at (listed_board other whole.pits) in
    cc

-- the number of a rank
pub rank_listed : (level rank : ℕ) (board : List ℕ) → level ≤ 24 → rank < size_of level → slice_get (tuples 12 level) rank ≡ Some board → rank ≡ rank_of board
rank_listed level rank board low inside listed =
    let (other, whole, stones, ranked) = board_reached level rank low inside in
    sym ranked ∙ ap rank_of (same_board level rank board other whole stones ranked listed)

-- ---- lists of six

pub all_six : {A : Type 0} {a b c d e f a2 b2 c2 d2 e2 f2 : A} → a ≡ a2 → b ≡ b2 → c ≡ c2 → d ≡ d2 → e ≡ e2 → f ≡ f2 → a ∷ b ∷ c ∷ d ∷ e ∷ f ∷ [] ≡ a2 ∷ b2 ∷ c2 ∷ d2 ∷ e2 ∷ f2 ∷ []
all_six p q r s t u = cc
