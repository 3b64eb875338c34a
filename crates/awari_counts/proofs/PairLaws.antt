-- The lines of a table, what was asked for, and why it is not counted.
use Rattle.std.proofs.Common.{◌≡◌, ℕ, ◌+◌, ◌-◌, ◌*◌, ◌<◌, ◌≤◌, Bool, true, false, Bor, List, [], ◌∷◌, ◌++◌, length, take, drop, get_or, inl, inr, Option, Some, Result, Ok, Err, sym, ◌∙◌, ap, subst, arith}
use Rattle.std.proofs.lemmas.List.{get_or-drop, get_or-take, length-drop, length-take-le}
use Rattle.std.specs.Io.KnownBytes.{Appends}
use Rattle.std.specs.Prelude.{IfErr}
use Rattle.std.specs.List.{flat_map, range_with_len}
use Rattle.awari_facts.specs.Sources.{limit_of}
use Rattle.awari_folder.specs.Contents.{Same, Stands}
use Rattle.awari_folder.specs.declared.faults.FolderFault.{FolderFault}
use Rattle.awari_places.proofs.Reading.{still_says}
use Rattle.awari_places.proofs.Running.{fault_before}
use Rattle.awari_places.specs.Places.{Says}
use Rattle.awari_members.specs.Forms.{form_of}
use Rattle.awari_queries.specs.Columns.{AsksForPair}
use Rattle.awari_members.specs.declared.forms.Form.{Form}
use Rattle.awari_queries.specs.declared.columns.Pair.{Pair}
use Rattle.awari_queries.specs.declared.questions.CountsQuery.{CountsQuery}
use Rattle.awari_rank.specs.Tuples.{tuples}
use Rattle.awari_table.specs.declared.images.Image.{Image}
use Rattle.awari_counts.specs.Asking.{IsHeldFault, IsReadFault}
use Rattle.awari_counts.specs.Pairs.{AppendsPairs, PrintsPairs, PrintsPairsBy, PrintsPairsSaid, boards_with, header_of, pair_lines, pair_row}
use Rattle.awari_counts.specs.Ranges.{number_at, width_of}
use Rattle.awari_facts.specs.Numbers.{column_member}
use Rattle.awari_counts.specs.Rows.{row_lines}
use Rattle.awari_counts.proofs.CellLaws.{row-within}
use Rattle.awari_counts.specs.Tables.{AreTabled, IsCountFault, IsHeldCountFault, cells_of, columns_of, rows_of}
use Rattle.awari_counts.specs.declared.pairs.Wish.{Wish}
use Rattle.awari_counts.specs.declared.tables.CellTable.{CellTable}

-- the numbers of a row of the table
part-long : (xs : List ℕ) (a w n : ℕ) → a + w ≤ length xs → n ≡ w → length (take n (drop a xs)) ≡ w
part-long xs a w n inside is = length-take-le n (drop a xs) (omega (arith, inside, is, length-drop a xs)) ∙ is

part-read : (xs : List ℕ) (a w n k : ℕ) → n ≡ w → k < w → get_or (take n (drop a xs)) k 0 ≡ get_or xs (a + k) 0
part-read xs a w n k is below = get_or-take n (drop a xs) k 0 (omega (arith, is, below)) ∙ get_or-drop a xs k 0

pub row-wide : (i w : ℕ) → (i + 1) * w - i * w ≡ w
row-wide i w =
    let next : (i + 1) * w ≡ i * w + w = omega arith in
    omega (arith, next)

-- the lines of that row
pub row-all : (form : Form) (table : CellTable) (images : List Image) (counts : List ℕ) (i w a n : ℕ) (before after : Option (List ℕ)) → length counts ≡ cells_of table → i < rows_of table → AreTabled images table (tuples 12 table.level) counts
    → w ≡ columns_of table → a ≡ i * w → n ≡ w
    → ((boards : ℕ → ℕ) → ((k : ℕ) → k < length (take n (drop a counts)) → get_or (take n (drop a counts)) k 0 ≡ boards k)
    → Appends before after (row_lines form (column_member table.pair.first (number_at table.pair.first i) ∷ []) table.pair.second boards (length (take n (drop a counts)))))
    → Appends before after (pair_row form table.pair images table.level table.limit i)
row-all form table images counts i w a n before after sized inside are wide at same lines =
    subst (λ m. Appends before after (row_lines form (column_member table.pair.first (number_at table.pair.first i) ∷ []) table.pair.second boards m)) (long ∙ wide) (lines boards each)
  where
    boards : ℕ → ℕ
    boards j = boards_with images table.pair.first table.pair.second (number_at table.pair.first i) (number_at table.pair.second j) table.level

    long : length (take n (drop a counts)) ≡ w
    long = part-long counts a w n (omega (arith, sized, at, row-within (rows_of table) (columns_of table) i inside, ap (λ v. i * v) wide, wide)) same

    each : (k : ℕ) → k < length (take n (drop a counts)) → get_or (take n (drop a counts)) k 0 ≡ boards k
    each k below =
        part-read counts a w n k same (omega (arith, below, long)) ∙ ap (λ m. get_or counts (m + k) 0) (at ∙ ap (λ v. i * v) wide) ∙ are.each i k inside (omega (arith, below, long, wide))

pub table-all : (form : Form) (pair : Pair) (images : List Image) (level limit n : ℕ) (before after : Option (List ℕ)) → n ≡ width_of limit pair.first
    → Appends before after (header_of form pair ++ flat_map (pair_row form pair images level limit) (range_with_len 0 n)) → Appends before after (pair_lines form pair images level limit)
unfolding pair_lines
table-all form pair images level limit n before after is all =
    subst (λ m. Appends before after (header_of form pair ++ flat_map (pair_row form pair images level limit) (range_with_len 0 m))) is all

-- ---- what was asked for

pub appended : (query : CountsQuery) (by : Bor (List ℕ)) (pair : Pair) (form : Form) (level : ℕ) (images : List Image) (before after : Option (List ℕ)) → query.by ≡ Some by → AsksForPair by.now pair → form ≡ form_of query.json query.csv
    → Appends before after (pair_lines form pair images level (limit_of images level)) → AppendsPairs query level images before after
appended query by pair form level images before after named asked is lines = record {
  by = by;
  named = named;
  pair = pair;
  asked = asked;
  lines = subst (λ f. Appends before after (pair_lines f pair images level (limit_of images level))) is lines;
}

pub printed-verified : (stands : Stands) (query : CountsQuery) (before after : Option (List ℕ)) → query.unverified ≡ false → PrintsPairs stands query before after
    → PrintsPairsBy query.unverified stands query before after
printed-verified stands query before after is printed = subst (λ b. PrintsPairsBy b stands query before after) (sym is) printed

pub printed-said : (stands : Stands) (query : CountsQuery) (before after : Option (List ℕ)) → query.unverified ≡ true → PrintsPairsSaid stands query before after
    → PrintsPairsBy query.unverified stands query before after
printed-said stands query before after is printed = subst (λ b. PrintsPairsBy b stands query before after) (sym is) printed

-- the table of what was asked for, up to the level's limit
pub table-asked : (form : Form) (table : CellTable) (images : List Image) (level : ℕ) (pair : Pair) (limit : ℕ) (items counts : List ℕ) (before after : Option (List ℕ)) → table ≡ record { level = level; pair = pair; limit = limit }
    → limit ≡ limit_of images level → counts ≡ items → AreTabled images table (tuples 12 table.level) items
    → (AreTabled images table (tuples 12 table.level) counts → Appends before after (pair_lines form table.pair images table.level table.limit)) → Appends before after (pair_lines form pair images level (limit_of images level))
table-asked form table images level pair limit items counts before after is up_to same are lines =
    let written = lines (subst (AreTabled images table (tuples 12 table.level)) (sym same) are) in
    subst (λ l. Appends before after (pair_lines form pair images level l)) up_to (subst (λ (t : CellTable). Appends before after (pair_lines form t.pair images t.level t.limit)) is written)

-- ---- why boards are not counted by a file, where no name changed

pub count-still : (table : CellTable) (old new : Stands) (fault : FolderFault) → Same old new → IsCountFault table new fault → IsCountFault table old fault
count-still table old new fault same (inl is) = inl is
count-still table old new fault same (inr (inl is)) = inr (inl (fault_before table.level 0 0 old new fault same (omega arith) is))
count-still table old new fault same (inr (inr is)) = inr (inr (is.0, λ levels images says low. is.1 levels images (still_says old new levels images same says) low))

pub count-before : (table asked : CellTable) (old new : Stands) (fault : FolderFault) → table ≡ asked → Same old new → IsCountFault table new fault → IsCountFault asked old fault
count-before table asked old new fault is same due = subst (λ (t : CellTable). IsCountFault t old fault) is (count-still table old new fault same due)

-- ---- why boards are not counted by levels in memory

pub held-asked : (images : List Image) (table : CellTable) (level : ℕ) (pair : Pair) (limit : ℕ) (fault : FolderFault) → table ≡ record { level = level; pair = pair; limit = limit } → limit ≡ limit_of images level
    → IsHeldCountFault images table fault → IsHeldCountFault images (record { level = level; pair = pair; limit = limit_of images level }) fault
held-asked images table level pair limit fault is up_to due =
    subst (λ l. IsHeldCountFault images (record { level = level; pair = pair; limit = l }) fault) up_to (subst (λ (t : CellTable). IsHeldCountFault images t fault) is due)

-- or by levels that were read into memory
pub read-asked : (wish : Wish) (stands : Stands) (images : List Image) (r : Result Bool FolderFault) → ((said : List Image) → Says stands (wish.level + 1) said → images ≡ said) → IfErr r (IsHeldFault wish images)
    → IfErr r (IsReadFault wish stands)
read-asked wish stands images (Ok written) read is = tt
read-asked wish stands images (Err fault) read is = inr (images, read, is)
