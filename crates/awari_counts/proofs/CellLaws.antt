-- The boards of a level in a table of two numbers, one by one.
use Rattle.std.proofs.Common.{◌≡◌, ℕ, ◌+◌, ◌*◌, ◌==◌, ◌<◌, ◌≤◌, Bool, true, false, ◌&&◌, List, [], ◌∷◌, ◌++◌, length, take, get_or, set, count_by, Option, Some, None, slice_get, ℤ, pos, ◌-ℤ◌, refl, sym, ◌∙◌, ap, subst, inl, inr, arith}
use Rattle.std.proofs.Math.Nat.{mul-le-mul_right}
use Rattle.std.proofs.lemmas.Bool.{cases_lt, false≢true}
use Rattle.std.proofs.lemmas.Bool.Decides.{nat_tests}
use Rattle.std.proofs.lemmas.Int.{ints}
use Rattle.std.proofs.lemmas.List.{take_all}
use Rattle.std.proofs.lemmas.List.Elements.{All-nil, All-push}
use Rattle.std.specs.Ordering.{int_eq}
use Rattle.std.specs.Prelude.{IfSome, IsNone}
use Rattle.awari_facts.specs.Numbers.{IsAt, number_in}
use Rattle.awari_queries.specs.declared.columns.Column.{Column}
use Rattle.awari_rank.specs.Rank.{size_of}
use Rattle.awari_rank.specs.Tuples.{tuples}
use Rattle.awari_table.proofs.ShelfLemmas.{take-read}
use Rattle.awari_table.specs.declared.images.Entry.{Entry}
use Rattle.awari_table.specs.declared.images.Image.{Image}
use Rattle.awari_counts.proofs.KeyLaws.{HasKey, counted-push}
use Rattle.awari_counts.specs.Pairs.{has_pair}
use Rattle.awari_counts.specs.Ranges.{below_of, number_at}
use Rattle.awari_counts.specs.Tables.{AreTabled, AreTabledTo, CountsSegment, HasCell, HasNoCell, IsCell, IsCellAt, IsCellOf, IsPlaced, cells_of, columns_of, rows_of}
use Rattle.awari_counts.specs.declared.cells.Start.{Start}
use Rattle.awari_counts.specs.declared.tables.CellTable.{CellTable}

-- ---- places in a table

-- what stands in a row is before what stands in a row below
row-before : (w a i b j : ℕ) → a < i → b < w → a * w + b < i * w + j
row-before w a i b j above inside =
    let lower : a + 1 ≤ i = omega (arith, above) in
    omega (arith, mul-le-mul_right w lower, inside)

pub row-within : (rows w i : ℕ) → i < rows → i * w + w ≤ rows * w
row-within rows w i inside =
    let next : i + 1 ≤ rows = omega (arith, inside) in
    omega (arith, mul-le-mul_right w next)

shift : (n b j : ℕ) → (n + b == n + j) ≡ (b == j)
shift n b j = grind (arith, nat_tests)

before : (m n : ℕ) → m < n → (m == n) ≡ false
before m n less = grind (arith, nat_tests)

after : (m n : ℕ) → n < m → (m == n) ≡ false
after m n more = grind (arith, nat_tests)

apart : (a i : ℕ) → i ≤ a → (a == i) ≡ false → i < a
apart a i least other = grind (arith, nat_tests)

alike : (a i : ℕ) → (a == i) ≡ true → a ≡ i
alike a i same = grind (arith, nat_tests)

cell-key : (w a i b j : ℕ) → b < w → j < w → (a * w + b == i * w + j) ≡ ((a == i) && (b == j))
cell-key w a i b j inside other = go (a == i) refl
  where
    go : (t : Bool) → (a == i) ≡ t → (a * w + b == i * w + j) ≡ (t && (b == j))
    go true e = ap (λ k. a * w + b == k * w + j) (sym (alike a i e)) ∙ shift (a * w) b j
    go false e = elim (cases_lt a i) [
      | inl less ↦ before (a * w + b) (i * w + j) (row-before w a i b j less inside)
      | inr more ↦ after (a * w + b) (i * w + j) (row-before w i a j b (apart a i more e) other)
    ]

-- two numbers that are counted from the same one
pub number-key : (b j k : ℕ) → int_eq (pos j -ℤ pos b) (pos k -ℤ pos b) ≡ (j == k)
number-key b j k = grind (arith, ints, nat_tests)

-- the board has the number at a place
abbrev pub has_number : List Image → Column → ℕ → List ℕ → Bool
has_number images column k board = int_eq (number_in images column board) (number_at column k)

-- it has one of these
pub placed-at : (images : List Image) (column : Column) (n place : ℕ) (board : List ℕ) → place < n → number_in images column board ≡ number_at column place → HasKey (has_number images column) n board
placed-at images column n place board inside is = record {
  key = place;
  below = inside;
  is = λ k. ap (λ m. int_eq m (number_at column k)) is ∙ number-key (below_of column) place k;
}

-- a board has the numbers of a cell where that is its own
pair-key : (images : List Image) (table : CellTable) (board : List ℕ) (cell i j : ℕ) → IsCellOf images table board cell → j < columns_of table
    → has_pair images table.pair.first table.pair.second (number_at table.pair.first i) (number_at table.pair.second j) board ≡ (cell == i * columns_of table + j)
pair-key images table board cell i j own inside =
    ap (λ n. int_eq n (number_at table.pair.first i) && int_eq (number_in images table.pair.second board) (number_at table.pair.second j)) own.first_is
    ∙ ap (λ n. int_eq (number_at table.pair.first own.row) (number_at table.pair.first i) && int_eq n (number_at table.pair.second j)) own.second_is
    ∙ ap (λ t. t && int_eq (number_at table.pair.second own.column) (number_at table.pair.second j)) (number-key (below_of table.pair.first) own.row i)
    ∙ ap (λ t. (own.row == i) && t) (number-key (below_of table.pair.second) own.column j)
    ∙ sym (cell-key (columns_of table) own.row i own.column j own.column_inside inside)
    ∙ ap (λ n. n == i * columns_of table + j) (sym own.is)

-- the cell of a board by its numbers
pub cell-own : (images : List Image) (table : CellTable) (board : List ℕ) (first second : ℤ) (cell : ℕ) → first ≡ number_in images table.pair.first board → second ≡ number_in images table.pair.second board
    → IsCell table first second cell → IsCellOf images table board cell
cell-own images table board first second cell one other is =
    subst (λ n. IsCell table (number_in images table.pair.first board) n cell) other (subst (λ n. IsCell table n second cell) one is)

-- the board has no cell if its numbers have none
none-own : (images : List Image) (table : CellTable) (board : List ℕ) (first second : ℤ) → first ≡ number_in images table.pair.first board → second ≡ number_in images table.pair.second board
    → ((cell : ℕ) → IsCell table first second cell → ⊥) → (cell : ℕ) → IsCellOf images table board cell → ⊥
none-own images table board first second one other none cell own =
    none cell (subst (λ n. IsCell table first n cell) (sym other) (subst (λ n. IsCell table n (number_in images table.pair.second board) cell) (sym one) own))

-- ---- one board more

tabled-push : (images : List Image) (table : CellTable) (boards : List (List ℕ)) (board : List ℕ) (counts next : List ℕ) (cell : ℕ) → AreTabled images table boards counts → IsCellOf images table board cell
    → cell < length counts → next ≡ set counts cell (get_or counts cell 0 + 1) → AreTabled images table (boards ++ board ∷ []) next
tabled-push images table boards board counts next cell are own inside is = record { placed = All-push (IsPlaced images table) boards board are.placed (cell, own); each = each }
  where
    test : ℕ → ℕ → List ℕ → Bool
    test i j = has_pair images table.pair.first table.pair.second (number_at table.pair.first i) (number_at table.pair.second j)

    each : (i j : ℕ) → i < rows_of table → j < columns_of table
        → get_or next (i * columns_of table + j) 0 ≡ count_by (has_pair images table.pair.first table.pair.second (number_at table.pair.first i) (number_at table.pair.second j)) (boards ++ board ∷ [])
    each i j row column = counted-push (test i j) boards board counts next cell (i * columns_of table + j) inside is (pair-key images table board cell i j own column) (are.each i j row column)

-- ---- the boards of a level by rank

pub tabled-none : (images : List Image) (table : CellTable) (counts : List ℕ) → ((k : ℕ) → get_or counts k 0 ≡ 0) → AreTabledTo images table 0 counts
tabled-none images table counts zeros = record { placed = All-nil (IsPlaced images table); each = λ i j row column. zeros (i * columns_of table + j) }

pub tabled-more : (images : List Image) (table : CellTable) (rank : ℕ) (board : List ℕ) (counts next : List ℕ) (cell : ℕ) → AreTabledTo images table rank counts → slice_get (tuples 12 table.level) rank ≡ Some board
    → IsCellOf images table board cell → cell < length counts → next ≡ set counts cell (get_or counts cell 0 + 1) → AreTabledTo images table (rank + 1) next
tabled-more images table rank board counts next cell so_far listed own inside is =
    subst (λ bs. AreTabled images table bs next) (sym (take-read (tuples 12 table.level) rank board listed))
    (tabled-push images table (take rank (tuples 12 table.level)) board counts next cell so_far own inside is)

pub tabled-all : (images : List Image) (table : CellTable) (rank : ℕ) (counts : List ℕ) → AreTabledTo images table rank counts → rank ≡ size_of table.level → AreTabled images table (tuples 12 table.level) counts
unfolding size_of
tabled-all images table rank counts all is =
    subst (λ bs. AreTabled images table bs counts) (take_all rank (tuples 12 table.level) (omega (arith, is))) all

-- ---- cells that were found before they are counted

pub has-cell : (images : List Image) (table : CellTable) (rank : ℕ) (board : List ℕ) (e : Entry) (first second : ℤ) (found : Option ℕ) → IsAt images table.level rank board e
    → first ≡ number_in images table.pair.first board → second ≡ number_in images table.pair.second board → IfSome found (λ cell. cell < cells_of table) → IfSome found (IsCell table first second)
    → (IsNone found → (cell : ℕ) → IsCell table first second cell → ⊥) → IsCellAt images table rank found
has-cell images table rank board e first second None at one other inside is none = record {
  board = board;
  listed = at.listed;
  none = none-own images table board first second one other (none refl);
}
has-cell images table rank board e first second (Some cell) at one other inside is none = record {
  inside = inside;
  board = board;
  listed = at.listed;
  own = cell-own images table board first second cell one other is;
}

pub no-cell : (images : List Image) (table : CellTable) (rank : ℕ) (found : Option ℕ) → IsCellAt images table rank found → found ≡ None → HasNoCell images table
no-cell images table rank found there is = (rank, subst (IsCellAt images table rank) is there)

pub cell-found : (images : List Image) (table : CellTable) (rank cell : ℕ) (found : Option ℕ) → IsCellAt images table rank found → found ≡ Some cell → HasCell images table rank cell
cell-found images table rank cell found there is = subst (IsCellAt images table rank) is there

-- one board more, whose cell was found
pub tabled-found : (images : List Image) (table : CellTable) (rank place : ℕ) (counts next : List ℕ) (cell : ℕ) → AreTabledTo images table (rank + place) counts → HasCell images table (rank + place) cell
    → cell < length counts → next ≡ set counts cell (get_or counts cell 0 + 1) → AreTabledTo images table (rank + (place + 1)) next
tabled-found images table rank place counts next cell so_far has inside is =
    let one_more : rank + place + 1 ≡ rank + (place + 1) = omega arith in
    subst (λ n. AreTabledTo images table n next) one_more (tabled-more images table (rank + place) has.board counts next cell so_far has.listed has.own inside is)

-- ---- a segment that was counted, or was not

pub segment-counted : (images : List Image) (start : Start) (boards : ℕ) (old new : List ℕ) (all : Bool) → all ≡ true → CountsSegment all images start boards old new
    → AreTabledTo images start.table start.first old → AreTabledTo images start.table (start.first + boards) new
segment-counted images start boards old new true is counts = counts
segment-counted images start boards old new false is counts = absurd (false≢true is)

pub segment-lacks : (images : List Image) (start : Start) (boards : ℕ) (old new : List ℕ) (all : Bool) → all ≡ false → CountsSegment all images start boards old new → HasNoCell images start.table
segment-lacks images start boards old new true is counts = absurd (false≢true (sym is))
segment-lacks images start boards old new false is counts = counts
