-- A level that is told in numbers, and why one is not.
use Rattle.std.proofs.Common.{◌≡◌, ℕ, ◌<◌, ◌≤◌, List, length, get_or, slice_get, Option, Some, None, sym, ap, subst, ◌∙◌, arith, inl, inr}
use Rattle.std.specs.Prelude.{IsSomeAnd}
use Rattle.std.proofs.lemmas.List.{get_or_default}
use Rattle.std.proofs.lemmas.List.FromFn.{length-map-range_with_len}
use Rattle.std.proofs.lemmas.Option.{get_or_from_slice_get, slice_get-get_or}
use Rattle.awari_folder.specs.Contents.{Same, Stands}
use Rattle.awari_folder.specs.declared.faults.FolderFault.{FolderFault}
use Rattle.awari_places.proofs.Reading.{image_got, levels_said}
use Rattle.awari_places.specs.Places.{AreFormed, Says, entry_in, image_in}
use Rattle.awari_places.specs.Runs.{IsEntryAt}
use Rattle.awari_rank.specs.Rank.{size_of}
use Rattle.awari_rank.specs.Tuples.{tuples}
use Rattle.awari_table.specs.Images.{no_image}
use Rattle.awari_table.specs.declared.images.Entry.{Entry}
use Rattle.awari_table.specs.declared.images.Image.{Image}
use Rattle.awari_facts.specs.Sources.{IsLimitUnread, SaysBy, levels_of, limit_of}
use Rattle.awari_counts.specs.Numbers.{AreNumbersOf}
use Rattle.awari_counts.specs.declared.counts.Numbers.{Numbers}
use Rattle.awari_facts.proofs.SourceLaws.{image_of, says_still}
use Rattle.awari_counts.proofs.PairLaws.{count-still}
use Rattle.awari_counts.proofs.SumLaws.{distance_read, greatest, tallied}
use Rattle.awari_counts.specs.Counts.{boards_of_distance}
use Rattle.awari_counts.specs.Sums.{AreSumsIn}
use Rattle.awari_counts.specs.Tables.{AreTabled, IsSized, IsTableFault}
use Rattle.awari_counts.specs.Tallies.{HasNoneAsFar, IsCountsFault, IsNumbersFault, IsTallied, IsTallyFault, IsTallyOf, values_table}
use Rattle.awari_facts.specs.declared.sources.Source.{Source}
use Rattle.awari_facts.specs.declared.sources.Source.TheVariants.{Memory, Files}
use Rattle.awari_counts.specs.declared.sums.Tally.{Tally}
use Rattle.awari_counts.specs.declared.tables.CellTable.{CellTable}

-- ---- a level that is there has an entry for each board

named_sized : (level k : ℕ) (name : Option (List ℕ)) (image : Image) (e : Entry) → Some image ≡ Some (image_in level name) → slice_get image.entries k ≡ Some e → (image.level ≡ level) × (length image.entries ≡ size_of level)
unfolding image_in
named_sized level k None image e same some =
    let is : image ≡ no_image = cc in
    let none : slice_get image.entries k ≡ None = ap (λ (m : Image). slice_get m.entries k) is in
    absurd cc
named_sized level k (Some bytes) image e same some =
    let is : image ≡ image_in level (Some bytes) = cc in
    (ap (λ (m : Image). m.level) is, ap (λ (m : Image). length m.entries) is ∙ length-map-range_with_len (entry_in bytes) 0 (size_of level))

sized_as : (o : Option Image) (image : Image) (level : ℕ) → o ≡ Some image → (image.level ≡ level) × (length image.entries ≡ size_of level) → IsSomeAnd o (λ m. (m.level ≡ level) × (length m.entries ≡ size_of level))
sized_as o image level is sized = subst (λ (p : Option Image). IsSomeAnd p (λ m. (m.level ≡ level) × (length m.entries ≡ size_of level))) (sym is) sized

-- by an entry that was read of its file
pub sized_said : (stands : Stands) (levels level k : ℕ) (images : List Image) (e : Entry) → Says stands levels images → level < levels → IsEntryAt images level k e → IsSized images level
sized_said stands levels level k images e says known there =
    let (image, found, read) = image_of (slice_get images level) (λ m. slice_get m.entries k ≡ Some e) there in
    sized_as (slice_get images level) image level found (named_sized level k (says.names level) image e (sym found ∙ image_got stands levels level images says known) read)

-- or in memory
pub sized_held : (images : List Image) (level : ℕ) → AreFormed images → level < length images → IsSized images level
sized_held images level formed known =
    sized_as (slice_get images level) (get_or images level no_image) level (slice_get-get_or images level no_image known) (formed.number level known, formed.sized level known)

-- ---- a level that is counted

-- what stands at the limit
read_as : (tally : Tally) (limit boards : ℕ) (counts : List ℕ) → AreSumsIn limit counts tally → get_or tally.distances.items limit boards ≡ get_or tally.distances.items limit 0
read_as tally limit boards counts sums = sym (get_or_default tally.distances.items limit 0 boards (omega (arith, sums.distances.long)))

-- the level is counted up to its greatest distance
pub tallied-up : (images : List Image) (table : CellTable) (counts read : List ℕ) (tally : Tally) (boards : ℕ) → table ≡ values_table table.level table.limit → table.level ≤ 24 → AreTabled images table (tuples 12 table.level) counts
    → IsSized images table.level → read ≡ counts → AreSumsIn table.limit read tally → boards ≡ get_or tally.distances.items table.limit boards → 0 < boards → IsSomeAnd (slice_get images table.level) (IsTallied table.level table.limit tally)
tallied-up images table counts read tally boards is low are sized same sums has some =
    let (image, found, whole) = image_of (slice_get images table.level) (λ m. (m.level ≡ table.level) × (length m.entries ≡ size_of table.level)) sized in
    let by_values = subst (λ t. AreTabled images t (tuples 12 table.level) counts) is are in
    let of_counts = subst (λ xs. AreSumsIn table.limit xs tally) same sums in
    let is_tallied : IsTallied table.level table.limit tally image = record {
      number = whole.0;
      sized = whole.1;
      counted = tallied images image table.level low found whole.1 table.limit counts by_values tally of_counts;
      greatest = greatest images image table.level low found whole.1 table.limit counts by_values tally of_counts boards (has ∙ read_as tally table.limit boards read sums) some;
    } in
    subst (λ (o : Option Image). IsSomeAnd o (IsTallied table.level table.limit tally)) (sym found) is_tallied

-- no board is as far from its end
pub none_as_far : (images : List Image) (table : CellTable) (counts read : List ℕ) (tally : Tally) (boards : ℕ) → table ≡ values_table table.level table.limit → table.level ≤ 24 → AreTabled images table (tuples 12 table.level) counts
    → IsSized images table.level → read ≡ counts → AreSumsIn table.limit read tally → boards ≡ get_or tally.distances.items table.limit boards → boards ≡ 0 → HasNoneAsFar images table
none_as_far images table counts read tally boards is low are sized same sums has none =
    let (image, found, whole) = image_of (slice_get images table.level) (λ m. (m.level ≡ table.level) × (length m.entries ≡ size_of table.level)) sized in
    let by_values = subst (λ t. AreTabled images t (tuples 12 table.level) counts) is are in
    let of_counts = subst (λ xs. AreSumsIn table.limit xs tally) same sums in
    let read_so = distance_read images image table.level low found whole.1 table.limit counts by_values tally of_counts table.limit (omega arith) in
    subst (λ (o : Option Image). IsSomeAnd o (λ m. boards_of_distance m.entries table.limit ≡ 0)) (sym found) (sym read_so ∙ sym (has ∙ read_as tally table.limit boards read sums) ∙ none)

-- ---- a level that is told of

abbrev numbers_as : ℕ → ℕ → ℕ → Tally → Numbers
numbers_as level boards limit tally = record { told = record { level = level; boards = boards; counts = tally.counts; limit = limit }; tally = tally }

pub numbered : (images : List Image) (level boards limit : ℕ) (tally : Tally) → IsSomeAnd (slice_get images level) (IsTallied level limit tally) → limit ≡ limit_of images level → boards ≡ size_of level
    → IsSomeAnd (slice_get images level) (λ image. AreNumbersOf image (numbers_as level boards limit tally))
numbered images level boards limit tally there is many =
    let (image, found, so) = image_of (slice_get images level) (IsTallied level limit tally) there in
    let limited : limit ≡ image.limit = is ∙ ap (λ (m : Image). m.limit) (get_or_from_slice_get images level image no_image found) in
    let are : AreNumbersOf image (numbers_as level boards limit tally) = record {
      told = record { level = sym so.number; boards = many ∙ sym so.sized; won = so.counted.won; even = so.counted.even; lost = so.counted.lost; limit = limited };
      tally = subst (λ (l : ℕ). IsTallyOf l image.entries tally) limited so.counted;
      greatest = sym limited ∙ so.greatest;
    } in
    subst (λ (o : Option Image). IsSomeAnd o (λ m. AreNumbersOf m (numbers_as level boards limit tally))) (sym found) are

-- as many levels speak
pub levels_by : (source : Source) (stands : Stands) (images : List Image) → SaysBy source stands images → length images ≡ levels_of source
levels_by (Memory levels) stands images says = ap length says.0
levels_by (Files levels) stands images says = levels_said stands levels images says

-- ---- why a level is not told of, where no name changed

table_still : (source : Source) (old new : Stands) (table : CellTable) (fault : FolderFault) → Same old new → IsTableFault source new table fault → IsTableFault source old table fault
table_still (Memory levels) old new table fault same is = is
table_still (Files levels) old new table fault same is = count-still table old new fault same is

tally_still : (source : Source) (old new : Stands) (table : CellTable) (fault : FolderFault) → Same old new → IsTallyFault source new table fault → IsTallyFault source old table fault
tally_still source old new table fault same (inl is) = inl (table_still source old new table fault same is)
tally_still source old new table fault same (inr (told, wrong)) = inr (told, λ images says. wrong images (says_still source old new images same says))

limit_still : (source : Source) (old new : Stands) (level : ℕ) (fault : FolderFault) → Same old new → IsLimitUnread source level (new level) fault → IsLimitUnread source level (old level) fault
limit_still source old new level fault same is = subst (λ (known : Option (Option (List ℕ))). IsLimitUnread source level known fault) (same level) is

-- the limit that was read is none up to which the level is counted
pub numbers_uncounted : (source : Source) (old new : Stands) (level limit : ℕ) (table : CellTable) (fault : FolderFault) → Same old new → ((images : List Image) → SaysBy source old images → limit ≡ limit_of images level)
    → table ≡ values_table level limit → IsTallyFault source new table fault → IsNumbersFault source old level fault
numbers_uncounted source old new level limit table fault same read is due =
    inr (limit, read, inr (subst (λ (t : CellTable). IsTallyFault source old t fault) is (tally_still source old new table fault same due)))

numbers_still : (source : Source) (old new : Stands) (level : ℕ) (fault : FolderFault) → Same old new → IsNumbersFault source new level fault → IsNumbersFault source old level fault
numbers_still source old new level fault same (inl is) = inl (limit_still source old new level fault same is)
numbers_still source old new level fault same (inr (limit, read, inl wrong)) = inr (limit, (λ images says. read images (says_still source old new images same says)), inl wrong)
numbers_still source old new level fault same (inr (limit, read, inr is)) =
    inr (limit, (λ images says. read images (says_still source old new images same says)), inr (tally_still source old new (values_table level limit) fault same is))

-- one of all levels is not told in numbers
pub counts_still : (source : Source) (old new : Stands) (level : ℕ) (fault : FolderFault) → level < levels_of source → Same old new → IsNumbersFault source new level fault → IsCountsFault source old None fault
counts_still source old new level fault known same is = record { level = level; known = known; is_asked = tt; due = numbers_still source old new level fault same is }
