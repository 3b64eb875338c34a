-- What the sums of a table of values and distances say of a level's entries.
use Rattle.std.proofs.Common.{◌≡◌, ℕ, ◌+◌, ◌*◌, ◌==◌, ◌<◌, ◌≤◌, Bool, ◌&&◌, int_lt, List, [], ◌∷◌, length, map, get_or, count_by, All, Some, slice_get, pos, ◌-ℤ◌, refl, sym, ◌∙◌, ap, subst, arith}
use Rattle.std.proofs.lemmas.Int.{ints}
use Rattle.std.proofs.lemmas.List.{ext_get_or, get_or-map, length-map}
use Rattle.std.proofs.lemmas.List.Elements.{All-map, All-weaker}
use Rattle.std.proofs.lemmas.List.Sums.{sum_by-cons}
use Rattle.std.proofs.lemmas.Option.{get_or_from_slice_get, slice_get-get_or}
use Rattle.std.specs.Ordering.{int_eq}
use Rattle.awari_facts.specs.Numbers.{number_in}
use Rattle.awari_queries.specs.declared.columns.Column.TheVariants.{Value, Distance}
use Rattle.awari_rank.proofs.Counting.{total_same}
use Rattle.awari_rank.proofs.Ranking.{listed_board}
use Rattle.awari_rank.proofs.Reaching.{board_reached}
use Rattle.awari_rank.specs.Rank.{size_of}
use Rattle.awari_rank.specs.Tuples.{total, tuples}
use Rattle.awari_table.proofs.ShelfLemmas.{entry_of-read}
use Rattle.awari_table.specs.Images.{entry_of, greatest_dist, lost_boards, no_entry, won_boards}
use Rattle.awari_table.specs.declared.images.Entry.{Entry}
use Rattle.awari_table.specs.declared.images.Image.{Image}
use Rattle.awari_counts.proofs.CellLaws.{has_number, number-key, placed-at}
use Rattle.awari_counts.proofs.KeyLaws.{HasKey, greatest_is, one_if, total-both, total-each, total-swapped}
use Rattle.awari_counts.proofs.ShareLaws.{lost_once, won_once}
use Rattle.awari_counts.specs.Counts.{boards_of_distance, boards_of_value}
use Rattle.awari_counts.specs.Ranges.{number_at}
use Rattle.awari_counts.specs.Sums.{AreSumsIn, distance_columns, lane_at, lane_sum, value_rows}
use Rattle.awari_counts.specs.Tables.{AreTabled, IsPlaced}
use Rattle.awari_counts.specs.Tallies.{IsTallyOf, values_table}
use Rattle.awari_counts.specs.declared.sums.Tally.{Tally}

-- ---- lists

counted-map : {A B : Type 0} (p : B → Bool) (f : A → B) (xs : List A) → count_by p (map f xs) ≡ count_by (λ x. p (f x)) xs
counted-map p f [] = refl
counted-map p f (x ∷ xs) = omega (arith, counted-map p f xs, sum_by-cons (λ y. one_if (p y)) (f x) (map f xs), sum_by-cons (λ y. one_if (p (f y))) x xs)

counted-same : {A : Type 0} (p q : A → Bool) (xs : List A) → ((x : A) → p x ≡ q x) → count_by p xs ≡ count_by q xs
counted-same p q [] same = refl
counted-same p q (x ∷ xs) same = omega (arith, counted-same p q xs same, sum_by-cons (λ y. one_if (p y)) x xs, sum_by-cons (λ y. one_if (q y)) x xs, ap one_if (same x))

-- a distance by its place
distance-key : (d j : ℕ) → int_eq (pos d) (pos j -ℤ pos 0) ≡ (d == j)
distance-key d j = ap (λ n. int_eq n (pos j -ℤ pos 0)) (let from_0 : pos d ≡ pos d -ℤ pos 0 = omega (arith, ints) in from_0) ∙ number-key 0 d j

distance-is : (d j : ℕ) → pos d ≡ pos j -ℤ pos 0 → d ≡ j
distance-is d j is = omega (arith, ints, is)

-- ---- the entries of a level by its boards

module _ (images : List Image) (image : Image) (level : ℕ) (low : level ≤ 24) (found : slice_get images level ≡ Some image) (sized : length image.entries ≡ size_of level) where
  listed : image.entries ≡ map (entry_of images) (tuples 12 level)
  unfolding size_of
  listed = ext_get_or no_entry image.entries (map (entry_of images) (tuples 12 level)) (sized ∙ sym (length-map (tuples 12 level) (entry_of images))) each
    where
      each : (k : ℕ) → k < length image.entries → get_or image.entries k no_entry ≡ get_or (map (entry_of images) (tuples 12 level)) k no_entry
      each k inside =
          let (p, whole, stones, ranked) = board_reached level k low (omega (arith, inside, sized)) in
          let here : k < length (tuples 12 level) = omega (arith, inside, sized) in
          entry_of-read images p image (get_or image.entries k no_entry) (rw stones found) (rw ranked (slice_get-get_or image.entries k no_entry inside))
          ∙ ap (entry_of images) (sym (get_or_from_slice_get (tuples 12 level) k p [] (rw (stones, ranked) at (listed_board p whole.pits)))) ∙ sym (get_or-map (entry_of images) (tuples 12 level) k [] no_entry here)

  counted : (p : Entry → Bool) → count_by (λ b. p (entry_of images b)) (tuples 12 level) ≡ count_by p image.entries
  counted p = sym (counted-map p (entry_of images) (tuples 12 level)) ∙ ap (count_by p) (sym listed)

  by_value : (place : ℕ) → count_by (has_number images Value place) (tuples 12 level) ≡ boards_of_value image.entries (number_at Value place)
  unfolding number_in
  by_value place = counted (λ e. int_eq e.value (number_at Value place))

  by_distance : (place : ℕ) → count_by (has_number images Distance place) (tuples 12 level) ≡ boards_of_distance image.entries place
  unfolding number_in
  by_distance place = counted-same (has_number images Distance place) (λ b. (entry_of images b).dist == place) (tuples 12 level) (λ b. distance-key (entry_of images b).dist place) ∙ counted (λ e. e.dist == place)

  by_won : count_by (λ b. int_lt (pos 0) (number_in images Value b)) (tuples 12 level) ≡ won_boards image.entries
  unfolding number_in
  by_won = counted (λ e. int_lt (pos 0) e.value)

  by_lost : count_by (λ b. int_lt (number_in images Value b) (pos 0)) (tuples 12 level) ≡ lost_boards image.entries
  unfolding number_in
  by_lost = counted (λ e. int_lt e.value (pos 0))

  -- ---- the table of values and distances

  module _ (limit : ℕ) (counts : List ℕ) (are : AreTabled images (values_table level limit) (tuples 12 level) counts) where
    boards_valued : All (HasKey (has_number images Value) 256) (tuples 12 level)
    boards_valued =
        All-weaker (IsPlaced images (values_table level limit)) (HasKey (has_number images Value) 256)
        (λ b placed. placed-at images Value 256 placed.1.row b placed.1.row_inside placed.1.first_is) (tuples 12 level) are.placed

    boards_distant : All (HasKey (has_number images Distance) (limit + 1)) (tuples 12 level)
    boards_distant =
        All-weaker (IsPlaced images (values_table level limit)) (HasKey (has_number images Distance) (limit + 1))
        (λ b placed. placed-at images Distance (limit + 1) placed.1.column b placed.1.column_inside placed.1.second_is) (tuples 12 level) are.placed

    -- a row has the boards of a value, a column those of a distance
    row : (i : ℕ) → i < 256 → lane_sum counts (lane_at (value_rows limit) i) ≡ count_by (has_number images Value i) (tuples 12 level)
    row i inside =
        total_same (λ j. get_or counts (i * (limit + 1) + j * 1) 0) (λ j. count_by (λ b. has_number images Value i b && has_number images Distance j b) (tuples 12 level)) (limit + 1)
        (λ j below. ap (λ k. get_or counts k 0) (let same : i * (limit + 1) + j * 1 ≡ i * (limit + 1) + j = omega arith in same) ∙ are.each i j inside below)
        ∙ total-both (has_number images Value i) (has_number images Distance) (limit + 1) (tuples 12 level) boards_distant

    column : (j : ℕ) → j < limit + 1 → lane_sum counts (lane_at (distance_columns limit) j) ≡ count_by (has_number images Distance j) (tuples 12 level)
    column j inside =
        total_same (λ i. get_or counts (j * 1 + i * (limit + 1)) 0) (λ i. count_by (λ b. has_number images Value i b && has_number images Distance j b) (tuples 12 level)) 256
        (λ i below. ap (λ k. get_or counts k 0) (let same : j * 1 + i * (limit + 1) ≡ i * (limit + 1) + j = omega arith in same) ∙ are.each i j below inside)
        ∙ total-swapped (has_number images Distance j) (has_number images Value) 256 (tuples 12 level) boards_valued

    -- the rows of some successive values
    won_rows : total (λ k. count_by (has_number images Value (129 + k)) (tuples 12 level)) 127 ≡ won_boards image.entries
    won_rows =
        total-each (λ b. int_lt (pos 0) (number_in images Value b)) (λ k. has_number images Value (129 + k)) 127 (tuples 12 level)
        (All-weaker (IsPlaced images (values_table level limit)) (λ b. total (λ k. one_if (has_number images Value (129 + k) b)) 127 ≡ one_if (int_lt (pos 0) (number_in images Value b)))
        (λ b placed. won_once (number_in images Value b) placed.1.row placed.1.row_inside placed.1.first_is) (tuples 12 level) are.placed)
        ∙ by_won

    lost_rows : total (λ k. count_by (has_number images Value k) (tuples 12 level)) 128 ≡ lost_boards image.entries
    lost_rows =
        total-each (λ b. int_lt (number_in images Value b) (pos 0)) (has_number images Value) 128 (tuples 12 level)
        (All-weaker (IsPlaced images (values_table level limit)) (λ b. total (λ k. one_if (has_number images Value k b)) 128 ≡ one_if (int_lt (number_in images Value b) (pos 0)))
        (λ b placed. lost_once (number_in images Value b) placed.1.row placed.1.first_is) (tuples 12 level) are.placed)
        ∙ by_lost

    near : All (λ (e : Entry). e.dist ≤ limit) image.entries
    unfolding number_in
    near =
        subst (λ es. All (λ (e : Entry). e.dist ≤ limit) es) (sym listed)
        (All-map (λ (e : Entry). e.dist ≤ limit) (entry_of images) (tuples 12 level)
        (All-weaker (IsPlaced images (values_table level limit)) (λ b. (entry_of images b).dist ≤ limit)
        (λ b placed. omega (arith, distance-is (entry_of images b).dist placed.1.column placed.1.second_is, placed.1.column_inside)) (tuples 12 level) are.placed))

    module _ (tally : Tally) (sums : AreSumsIn limit counts tally) where
      value_read : (k : ℕ) → k < 256 → get_or tally.values.items k 0 ≡ count_by (has_number images Value k) (tuples 12 level)
      value_read k inside = sums.values.each k inside ∙ row k inside

      pub distance_read : (k : ℕ) → k < limit + 1 → get_or tally.distances.items k 0 ≡ boards_of_distance image.entries k
      distance_read k inside = sums.distances.each k inside ∙ column k inside ∙ by_distance k

      pub tallied : IsTallyOf limit image.entries tally
      tallied = record {
        won = sums.shares.won ∙ total_same (λ k. get_or tally.values.items (129 + k) 0) (λ k. count_by (has_number images Value (129 + k)) (tuples 12 level)) 127 (λ k below. value_read (129 + k) (omega (arith, below))) ∙ won_rows;
        even = sums.shares.even ∙ value_read 128 (omega arith) ∙ by_value 128;
        lost = sums.shares.lost ∙ total_same (λ k. get_or tally.values.items k 0) (λ k. count_by (has_number images Value k) (tuples 12 level)) 128 (λ k below. value_read k (omega (arith, below))) ∙ lost_rows;
        values = record { long = sums.values.long; each = λ k inside. value_read k inside ∙ by_value k };
        distances = record { long = sums.distances.long; each = distance_read };
      }

      pub greatest : (boards : ℕ) → boards ≡ get_or tally.distances.items limit 0 → 0 < boards → limit ≡ greatest_dist image.entries
      greatest boards read some = greatest_is (λ (e : Entry). e.dist) image.entries limit near (omega (arith, some, read, distance_read limit (omega arith)))
