-- The numbers of boards of all values, of all distances, of all pairs of numbers, and of those won, even and lost come to the level's size.
use Rattle.std.proofs.Common.{◌≡◌, ◌≢◌, ℕ, zero, suc, ◌+◌, ◌-◌, ◌==◌, ◌<◌, ◌≤◌, Bool, true, false, cond, ◌&&◌, ◌||◌, nat_lt, List, [], ◌∷◌, drop, length, map, int_lt, take, get_or, count_by, fold, max, sum, All, neg_ℤ, ◌≤ℤ◌, ◌<ℤ◌, Option, Some, None, slice_get, ℤ, pos, ◌-ℤ◌, negsuc, refl, sym, ◌∙◌, ap, subst, arith}
use Rattle.std.proofs.lemmas.Int.{ints}
use Rattle.std.proofs.lemmas.List.{length-append, length-drop, length-map, length-take, length-take-le}
use Rattle.std.proofs.lemmas.List.Elements.{All-from_get_or}
use Rattle.std.proofs.lemmas.List.Sums.{count_by-le-length, sum_by-cons}
use Rattle.std.proofs.lemmas.Bool.{false≢true}
use Rattle.std.proofs.lemmas.Bool.Decides.{nat_tests}
use Rattle.std.proofs.lemmas.Option.{get_or_from_slice_get, slice_get-get_or, slice_get_within}
use Rattle.std.specs.Prelude.{IfSome}
use Rattle.std.specs.Ordering.{int_eq}
use Rattle.awari_board.proofs.Keeping.{IsBoard-next, sum-from_IsMove, sum-turned}
use Rattle.awari_board.proofs.Moving.{IsMove-from_tests}
use Rattle.awari_board.specs.Rules.{IsBoard, captured, next_board, turned}
use Rattle.awari_board.specs.Tests.{is_legal}
use Rattle.awari_facts.specs.Facts.{captured_by, captures_by, gained_by, gains, gains_in, greedier, greediest, is_zugzwang, keeping_moves, largest_capture, legal_moves, lost_by, lost_by_moving, most_captured, no_capture, other_value, own_pits}
use Rattle.awari_facts.proofs.RankLaws.{rank-inside}
use Rattle.awari_facts.specs.Numbers.{number_in, or_less}
use Rattle.awari_facts.specs.declared.looks.Gained.{Gained}
use Rattle.awari_queries.specs.declared.columns.Column.{Column}
use Rattle.awari_queries.specs.declared.columns.Column.TheVariants.{Rank, Value, Distance, Plan, Captures, Greedy, Moves, Keep, Trap, Other, Waits}
use Rattle.awari_queries.specs.declared.columns.Pair.{Pair}
use Rattle.awari_rank.proofs.Counting.{total_same}
use Rattle.awari_rank.proofs.Ranking.{listed_board}
use Rattle.awari_rank.proofs.Reaching.{board_reached}
use Rattle.awari_rank.specs.Rank.{rank_of, size_of}
use Rattle.awari_rank.specs.Tuples.{total, tuples}
use Rattle.awari_table.proofs.CertificateLemmas.{right_from_shelf}
use Rattle.awari_table.proofs.ShelfLemmas.{Consistent-level, entry_of-read}
use Rattle.awari_table.specs.Images.{entry_of, even_boards, lost_boards, no_entry, won_boards}
use Rattle.awari_table.specs.Shelves.{Consistent, IsShelf}
use Rattle.awari_table.specs.declared.images.Entry.{Entry}
use Rattle.awari_table.specs.declared.images.Image.{Image}
use Rattle.awari_counts.proofs.CellLaws.{has_number, number-key, placed-at}
use Rattle.awari_counts.proofs.KeyLaws.{HasKey, above_each, one_if, total-both, total-counts}
use Rattle.awari_counts.specs.Counts.{boards_of_distance, boards_of_value}
use Rattle.awari_counts.specs.Pairs.{boards_with}
use Rattle.awari_counts.specs.Ranges.{number_at, width_of}

-- ---- the number of a board has a place

HasPlace : List Image → ℕ → Column → List ℕ → Type 0
HasPlace images limit column board = HasKey (has_number images column) (width_of limit column) board

placed : (images : List Image) (limit : ℕ) (column : Column) (board : List ℕ) (place : ℕ) → place < width_of limit column → number_in images column board ≡ number_at column place → HasPlace images limit column board
unfolding HasPlace
placed images limit column board place inside is = placed-at images column (width_of limit column) place board inside is

-- the place of a value of at most 24 stones
value-place : (v : ℤ) (n : ℕ) → n ≤ 24 → neg_ℤ (pos n) ≤ℤ v → v ≤ℤ pos n → (j : ℕ) × (j < 256) × (v ≡ number_at Value j)
value-place (pos m) n few low high = (m + 128, omega (arith, ints), omega (arith, ints))
value-place (negsuc m) n few low high = (127 - m, omega (arith, ints), omega (arith, ints))

-- that of a number of at most m, or of none
less-place : (o : Option ℕ) (m : ℕ) → IfSome o (λ n. n ≤ m) → (j : ℕ) × (j < m + 2) × (or_less o ≡ pos j -ℤ pos 1)
less-place None m few = (0, omega arith, refl)
less-place (Some n) m few = (n + 1, omega (arith, few), omega (arith, ints))

few-captured : (left taken stones : ℕ) → left + taken ≡ stones → stones ≤ 24 → taken ≤ 24
few-captured left taken stones is few = omega (arith, is, few)

captures-few : (board : List ℕ) (plan : Option ℕ) → IsBoard board → sum board ≤ 24 → IfSome (captures_by board plan) (λ n. n ≤ 24)
captures-few board None whole few = tt
captures-few board (Some x) whole few = go (is_legal board x) refl
  where
    go : (b : Bool) → is_legal board x ≡ b → IfSome (cond b (Some (captured board x)) None) (λ n. n ≤ 24)
    go true e =
        few-captured (sum (next_board board x)) (captured board x) (sum board)
        (sum-from_IsMove board x (captured board x) (next_board board x) whole.pits (IsMove-from_tests board x (captured board x) (next_board board x) e refl refl)) few
    go false e = tt

-- the most of numbers of at most m
fold-few : (f : ℕ → ℕ) (xs : List ℕ) (most m : ℕ) → ((x : ℕ) → f x ≤ m) → most ≤ m → fold (λ n x. max n (f x)) most xs ≤ m
fold-few f [] most m each few = few
fold-few f (x ∷ xs) most m each few = fold-few f xs (max most (f x)) m each (max-few most (f x) m few (each x))
  where
    max-few : (a b m : ℕ) → a ≤ m → b ≤ m → max a b ≤ m
    max-few a b m one other = grind (arith, nat_tests)

largest-few : (board : List ℕ) → IsBoard board → sum board ≤ 24 → IfSome (largest_capture board) (λ n. n ≤ 24)
largest-few board whole few = go (most_captured board == 0) (fold-few (captured_by board) own_pits 0 24 each (omega arith))
  where
    each : (x : ℕ) → captured_by board x ≤ 24
    each x = one (is_legal board x) refl
      where
        one : (b : Bool) → is_legal board x ≡ b → cond b (captured board x) 0 ≤ 24
        one true e = subst (λ b. IfSome (cond b (Some (captured board x)) None) (λ n. n ≤ 24)) e (captures-few board (Some x) whole few)
        one false e = omega arith

    go : (b : Bool) → most_captured board ≤ 24 → IfSome (cond b None (Some (most_captured board))) (λ n. n ≤ 24)
    go true most = tt
    go false most = most

own-plan : (plan : Option ℕ) → IfSome plan (λ x. x < 6) → IfSome plan (λ x. x ≤ 5)
own-plan None own = tt
own-plan (Some x) own = omega (arith, own)

-- ---- what the largest capture throws away, and what zugzwang loses

-- what a move of at most 24 stones gains
abbrev IsNear : Gained → Type 0
IsNear g = (neg_ℤ (pos 24) ≤ℤ g.value) × (g.value ≤ℤ pos 48)

greedier-near : (most : Gained) (other : Option Gained) → IsNear most → IfSome other IsNear → IsNear (greedier most other)
greedier-near most None near others = near
greedier-near most (Some g) near others = go (nat_lt most.captured g.captured || (g.captured == most.captured && int_lt most.value g.value))
  where
    go : (b : Bool) → IsNear (cond b g most)
    go true = others
    go false = near

greediest-near : (f : ℕ → Option Gained) (xs : List ℕ) (most : Gained) → IsNear most → ((x : ℕ) → IfSome (f x) IsNear) → IsNear (fold greedier most (map f xs))
greediest-near f [] most near each = near
greediest-near f (x ∷ xs) most near each = greediest-near f xs (greedier most (f x)) (greedier-near most (f x) near (each x)) each

gain-near : (c n : ℕ) (v : ℤ) → c ≤ 24 → n ≤ 24 → neg_ℤ (pos n) ≤ℤ v → v ≤ℤ pos n → (neg_ℤ (pos 24) ≤ℤ (pos c -ℤ v)) × ((pos c -ℤ v) ≤ℤ pos 48)
gain-near c n v few some low high = (omega (arith, ints), omega (arith, ints))

trap-place : (v : ℤ) → neg_ℤ (pos 72) ≤ℤ v → v ≤ℤ pos 72 → (j : ℕ) × (j < 535) × (v ≡ number_at Trap j)
trap-place (pos m) low high = (m + 280, omega (arith, ints), omega (arith, ints))
trap-place (negsuc m) low high = (279 - m, omega (arith, ints), omega (arith, ints))

lost-place : (v : ℤ) (g : Gained) (n : ℕ) → n ≤ 24 → neg_ℤ (pos n) ≤ℤ v → v ≤ℤ pos n → IsNear g → (j : ℕ) × (j < 535) × (lost_by v g ≡ number_at Trap j)
lost-place v g n few low high near = go (g.captured == 0)
  where
    lower : neg_ℤ (pos 72) ≤ℤ (v -ℤ g.value)
    lower = omega (arith, ints, near.1)

    upper : (v -ℤ g.value) ≤ℤ pos 72
    upper = omega (arith, ints, near.0)

    go : (b : Bool) → (j : ℕ) × (j < 535) × (cond b (pos 0) (v -ℤ g.value) ≡ number_at Trap j)
    go true = trap-place (pos 0) (omega (arith, ints)) (omega (arith, ints))
    go false = trap-place (v -ℤ g.value) lower upper

both-hold : (a b : Bool) → a && b ≡ true → b ≡ true
both-hold true b both = both
both-hold false b both = absurd (false≢true both)

less-by : (a b : ℤ) → int_lt a b ≡ true → a <ℤ b
less-by a b is = grind (arith, ints, nat_tests)

waits-place : (v : ℤ) → pos 0 ≤ℤ v → v ≤ℤ pos 48 → (j : ℕ) × (j < 257) × (v ≡ number_at Waits j)
waits-place (pos m) low high = (m, omega (arith, ints), omega (arith, ints))
waits-place (negsuc m) low high = absurd (omega (arith, ints))

moving-place : (moves n : ℕ) (value other : ℤ) → n ≤ 24 → neg_ℤ (pos n) ≤ℤ value → value ≤ℤ pos n → neg_ℤ (pos n) ≤ℤ other → other ≤ℤ pos n
    → (j : ℕ) × (j < 257) × (lost_by_moving moves value other ≡ number_at Waits j)
moving-place moves n value other few low high near far = go (is_zugzwang moves value other) refl
  where
    go : (b : Bool) → is_zugzwang moves value other ≡ b → (j : ℕ) × (j < 257) × (cond b (neg_ℤ other -ℤ value) (pos 0) ≡ number_at Waits j)
    go true is =
        let less : value <ℤ neg_ℤ other = less-by value (neg_ℤ other) (both-hold (nat_lt 0 moves) (int_lt value (neg_ℤ other)) is) in
        waits-place (neg_ℤ other -ℤ value) (omega (arith, ints, less)) (omega (arith, ints))
    go false is = waits-place (pos 0) (omega (arith, ints)) (omega (arith, ints))

turned-whole : (board : List ℕ) → IsBoard board → IsBoard (turned board)
turned-whole board whole = record {
  pits = omega (arith, whole.pits, length-append (drop 6 board) (take 6 board), length-drop 6 board, length-take 6 board);
  stones = omega (arith, whole.stones, sum-turned board);
}

counted-from_0 : (m : ℕ) → pos m ≡ pos m -ℤ pos 0
counted-from_0 m = omega (arith, ints)

few-moves : (m n : ℕ) → m ≤ n → n ≡ 6 → m < 7
few-moves m n few is = omega (arith, few, is)

-- ---- lost, even or won

one-sign : (v : ℤ) → one_if (int_lt (pos 0) v) + one_if (int_eq v (pos 0)) + one_if (int_lt v (pos 0)) ≡ 1
one-sign (pos zero) = refl
one-sign (pos (suc n)) = grind (arith, nat_tests)
one-sign (negsuc n) = refl

signs-sum : (entries : List Entry) → won_boards entries + even_boards entries + lost_boards entries ≡ length entries
signs-sum [] = refl
signs-sum (e ∷ es) =
    omega (arith, signs-sum es, one-sign e.value, sum_by-cons (λ x. one_if (int_lt (pos 0) x.value)) e es, sum_by-cons (λ x. one_if (int_eq x.value (pos 0))) e es, sum_by-cons (λ x. one_if (int_lt x.value (pos 0))) e es)

-- the boards of a level of a shelf
module _ (images : List Image) (image : Image) (level : ℕ) (shelf : IsShelf images) (found : slice_get images level ≡ Some image) where
  known : level < length images
  known = slice_get_within images level image found

  low : level ≤ 24
  low = omega (arith, shelf.few, known)

  consistent : Consistent (take level images) image
  consistent = Consistent-level images (take level images) level image shelf found refl

  sized : length image.entries ≡ size_of level
  sized = consistent.sized ∙ ap size_of (consistent.next ∙ length-take-le level images (omega (arith, known)))

  -- the board of an entry
  reached : (i : ℕ) → i < length image.entries → (p : List ℕ) × IsBoard p × (sum p ≡ level) × (get_or image.entries i no_entry ≡ entry_of images p)
  reached i inside =
      let (p, whole, stones, ranked) = board_reached level i low (omega (arith, inside, sized)) in
      (p, whole, stones, entry_of-read images p image (get_or image.entries i no_entry) (rw stones found) (rw ranked (slice_get-get_or image.entries i no_entry inside)))

  own-value : (board : List ℕ) → IsBoard board → sum board ≡ level → (j : ℕ) × (j < 256) × ((entry_of images board).value ≡ number_at Value j)
  own-value board whole stones =
      let right = right_from_shelf images shelf board whole (omega (arith, known, stones)) in
      value-place (entry_of images board).value (sum board) (omega (arith, low, stones)) right.in_range.0 right.in_range.1

  -- a value of a level up to this one
  any-value : (board : List ℕ) → IsBoard board → sum board ≤ level → (neg_ℤ (pos (sum board)) ≤ℤ (entry_of images board).value) × ((entry_of images board).value ≤ℤ pos (sum board))
  any-value board whole few =
      let right = right_from_shelf images shelf board whole (omega (arith, known, few)) in
      (right.in_range.0, right.in_range.1)

  gains-near : (board : List ℕ) → IsBoard board → sum board ≡ level → IsNear (greediest (gains_in images board))
  gains-near board whole stones = greediest-near (gained_by images board) own_pits no_capture (omega (arith, ints), omega (arith, ints)) each
    where
      each : (x : ℕ) → IfSome (gained_by images board x) IsNear
      each x = go (is_legal board x) refl
        where
          go : (b : Bool) → is_legal board x ≡ b → IfSome (cond b (Some (record { captured = captured board x; value = pos (captured board x) -ℤ (entry_of images (next_board board x)).value })) None) IsNear
          go true e =
              let move = IsMove-from_tests board x (captured board x) (next_board board x) e refl refl in
              let kept = sum-from_IsMove board x (captured board x) (next_board board x) whole.pits move in
              let (least, most) = any-value (next_board board x) (IsBoard-next board x (captured board x) (next_board board x) whole move) (omega (arith, kept, stones)) in
              gain-near (captured board x) (sum (next_board board x)) (entry_of images (next_board board x)).value (omega (arith, kept, stones, low)) (omega (arith, kept, stones, low)) least most
          go false e = tt

  near : (i : ℕ) → i < length image.entries → (get_or image.entries i no_entry).dist ≤ image.limit
  near i inside = omega (arith, consistent.limited, above_each (λ x. x.dist) image.entries 0 i (get_or image.entries i no_entry) (slice_get-get_or image.entries i no_entry inside))

  dist-few : (board : List ℕ) → IsBoard board → sum board ≡ level → (entry_of images board).dist ≤ image.limit
  dist-few board whole stones =
      let inside : rank_of board < length image.entries = omega (arith, sized, subst (λ n. rank_of board < size_of n) stones (rank-inside board whole)) in
      let is = entry_of-read images board image (get_or image.entries (rank_of board) no_entry) (rw stones found) (slice_get-get_or image.entries (rank_of board) no_entry inside) in
      omega (arith, near (rank_of board) inside, ap (λ (e : Entry). e.dist) is)

  placed-on : (column : Column) (board : List ℕ) → column ≢ Rank → IsBoard board → sum board ≡ level → HasPlace images image.limit column board
  unfolding number_in
  placed-on Rank board counted whole stones = absurd (counted refl)
  placed-on Value board counted whole stones =
      let (j, below, is) = own-value board whole stones in
      placed images image.limit Value board j below is
  placed-on Distance board counted whole stones =
      placed images image.limit Distance board (entry_of images board).dist (omega (arith, dist-few board whole stones)) (counted-from_0 (entry_of images board).dist)
  placed-on Plan board counted whole stones =
      let right = right_from_shelf images shelf board whole (omega (arith, known, stones)) in
      let (j, below, is) = less-place (entry_of images board).plan 5 (own-plan (entry_of images board).plan right.in_range.2) in
      placed images image.limit Plan board j below is
  placed-on Captures board counted whole stones =
      let (j, below, is) = less-place (captures_by board (entry_of images board).plan) 24 (captures-few board (entry_of images board).plan whole (omega (arith, low, stones))) in
      placed images image.limit Captures board j below is
  placed-on Greedy board counted whole stones =
      let (j, below, is) = less-place (largest_capture board) 24 (largest-few board whole (omega (arith, low, stones))) in
      placed images image.limit Greedy board j below is
  placed-on Moves board counted whole stones =
      placed images image.limit Moves board (legal_moves board) (few-moves (legal_moves board) (length own_pits) (count_by-le-length (is_legal board) own_pits) refl) (counted-from_0 (legal_moves board))
  placed-on Keep board counted whole stones =
      placed images image.limit Keep board (keeping_moves images board)
      (few-moves (keeping_moves images board) (length (gains_in images board)) (count_by-le-length (gains (entry_of images board).value) (gains_in images board)) (length-map own_pits (gained_by images board))) (counted-from_0 (keeping_moves images board))
  placed-on Trap board counted whole stones =
      let (least, most) = any-value board whole (omega (arith, stones)) in
      let (j, below, is) = lost-place (entry_of images board).value (greediest (gains_in images board)) (sum board) (omega (arith, low, stones)) least most (gains-near board whole stones) in
      placed images image.limit Trap board j below is
  placed-on Other board counted whole stones =
      let (j, below, is) = own-value (turned board) (turned-whole board whole) (sum-turned board ∙ stones) in
      placed images image.limit Other board j below is
  placed-on Waits board counted whole stones =
      let (least, most) = any-value board whole (omega (arith, stones)) in
      let (near, far) = any-value (turned board) (turned-whole board whole) (omega (arith, stones, sum-turned board)) in
      let same : sum (turned board) ≡ sum board = sum-turned board in
      let (j, below, is) = moving-place (legal_moves board) (sum board) (entry_of images board).value (other_value images board) (omega (arith, low, stones)) least most (rw same at near) (rw same at far) in
      placed images image.limit Waits board j below is

  all_placed : (column : Column) → column ≢ Rank → All (HasPlace images image.limit column) (tuples 12 level)
  unfolding size_of
  all_placed column counted = All-from_get_or (HasPlace images image.limit column) (tuples 12 level) [] each
    where
      each : (i : ℕ) → i < length (tuples 12 level) → HasPlace images image.limit column (get_or (tuples 12 level) i [])
      each i inside =
          let (p, whole, stones, ranked) = board_reached level i low inside in
          subst (HasPlace images image.limit column) (sym (get_or_from_slice_get (tuples 12 level) i p [] (rw (stones, ranked) at (listed_board p whole.pits)))) (placed-on column p counted whole stones)

  pub pairs-sum : (pair : Pair) → pair.first ≢ Rank → pair.second ≢ Rank
      → total (λ i. total (λ j. boards_with images pair.first pair.second (number_at pair.first i) (number_at pair.second j) level) (width_of image.limit pair.second)) (width_of image.limit pair.first) ≡ size_of level
  unfolding HasPlace size_of
  pairs-sum pair one other =
      total_same (λ i. total (λ j. boards_with images pair.first pair.second (number_at pair.first i) (number_at pair.second j) level) (width_of image.limit pair.second)) (λ i. count_by (has_number images pair.first i) (tuples 12 level)) (width_of image.limit pair.first)
      (λ i below. total-both (has_number images pair.first i) (has_number images pair.second) (width_of image.limit pair.second) (tuples 12 level) (all_placed pair.second other))
      ∙ total-counts (has_number images pair.first) (width_of image.limit pair.first) (tuples 12 level) (all_placed pair.first one)

  -- the entries, by a test that each passes at one key
  keyed-sum : (test : ℕ → Entry → Bool) (n : ℕ) → ((i : ℕ) → i < length image.entries → HasKey test n (get_or image.entries i no_entry)) → total (λ k. count_by (test k) image.entries) n ≡ size_of level
  keyed-sum test n keyed = total-counts test n image.entries (All-from_get_or (HasKey test n) image.entries no_entry keyed) ∙ sized

  pub values-sum : total (λ place. boards_of_value image.entries (number_at Value place)) 256 ≡ size_of level
  values-sum = keyed-sum (λ k e. int_eq e.value (number_at Value k)) 256 (λ i inside.
      let (p, whole, stones, same) = reached i inside in
      let (j, below, is) = own-value p whole stones in
      record { key = j; below = below; is = λ k. ap (λ v. int_eq v (number_at Value k)) (ap (λ (e : Entry). e.value) same ∙ is) ∙ number-key 128 j k })

  pub distances-sum : total (boards_of_distance image.entries) (image.limit + 1) ≡ size_of level
  distances-sum =
      keyed-sum (λ k e. e.dist == k) (image.limit + 1) (λ i inside. record { key = (get_or image.entries i no_entry).dist; below = omega (arith, near i inside); is = λ k. refl })

  pub shares-sum : won_boards image.entries + even_boards image.entries + lost_boards image.entries ≡ size_of level
  shares-sum = signs-sum image.entries ∙ sized
