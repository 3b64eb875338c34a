-- Numbers of boards by sign, by value and by distance, and why they are not told. Private functions alone go by these: no public contract does.
use Rattle.std.specs.Prelude.{◌≡◌, ℕ, ◌+◌, ◌==◌, ◌<◌, ◌⊎◌, Bool, List, length, count_by, slice_get, slice_index, Option, IfSome, IsSomeAnd}
use Rattle.std.specs.Ordering.{int_eq}
use Rattle.awari_folder.specs.Contents.{Stands}
use Rattle.awari_folder.specs.declared.faults.FolderFault.{FolderFault}
use Rattle.awari_rank.specs.Rank.{size_of}
use Rattle.awari_table.specs.Images.{even_boards, greatest_dist, lost_boards, won_boards}
use Rattle.awari_table.specs.declared.images.Entry.{Entry}
use Rattle.awari_table.specs.declared.images.Image.{Image}
use Rattle.awari_counts.specs.Ranges.{number_at}
use Rattle.awari_queries.specs.declared.columns.Column.TheVariants.{Value, Distance}
use Rattle.awari_facts.specs.Sources.{IsLimitUnread, SaysBy, levels_of, limit_of}
use Rattle.awari_facts.specs.declared.sources.Source.{Source}
use Rattle.awari_counts.specs.Counts.{boards_of_distance}
use Rattle.awari_counts.specs.Tables.{IsTableFault, wrong_limit}
use Rattle.awari_counts.specs.declared.sums.Tally.{Tally}
use Rattle.awari_counts.specs.declared.tables.CellTable.{CellTable}

-- how many of these entries pass the test of each number below n
pub record AreCounted (test : ℕ → Entry → Bool) (n : ℕ) (entries : List Entry) (counts : List ℕ) : Type 0 where
  pub long : length counts ≡ n
  pub each : (k : ℕ) → k < n → slice_index counts k ≡ count_by (test k) entries

abbrev pub AreByValue : List Entry → List ℕ → Type 0
AreByValue = AreCounted (λ k e. int_eq e.value (number_at Value k)) 256

-- up to a limit
abbrev pub AreByDistance : ℕ → List Entry → List ℕ → Type 0
AreByDistance limit = AreCounted (λ k e. e.dist == k) (limit + 1)

pub record IsTallyOf (limit : ℕ) (entries : List Entry) (tally : Tally) : Type 0 where
  pub won : tally.counts.won ≡ won_boards entries
  pub even : tally.counts.even ≡ even_boards entries
  pub lost : tally.counts.lost ≡ lost_boards entries
  pub values : AreByValue entries tally.values.items
  pub distances : AreByDistance limit entries tally.distances.items

-- the level of this number has an entry for each of its boards, those are counted, and the limit is the greatest distance
pub record IsTallied (level limit : ℕ) (tally : Tally) (image : Image) : Type 0 where
  pub number : image.level ≡ level
  pub sized : length image.entries ≡ size_of level
  pub counted : IsTallyOf limit image.entries tally
  pub greatest : limit ≡ greatest_dist image.entries

-- this many boards have each value, and each distance up to a limit
pub record AreWide (limit : ℕ) (tally : Tally) : Type 0 where
  pub values : length tally.values.items ≡ 256
  pub distances : length tally.distances.items ≡ limit + 1

-- what is counted for that: the boards of a level, by value and by distance
abbrev pub values_table : ℕ → ℕ → CellTable
values_table level limit = record { level = level; pair = record { first = Value; second = Distance }; limit = limit }

-- no board of the level is as far from its end as the limit
abbrev pub HasNoneAsFar : List Image → CellTable → Type 0
HasNoneAsFar images table = IsSomeAnd (slice_get images table.level) (λ image. boards_of_distance image.entries table.limit ≡ 0)

-- Why the boards of a table are not counted up to its limit: as they are not counted, or as 83 with V7 if none is as far from its end.
abbrev pub IsTallyFault : Source → Stands → CellTable → FolderFault → Type 0
IsTallyFault source stands table fault = IsTableFault source stands table fault
    ⊎ ((fault ≡ wrong_limit table.level) × ((images : List Image) → SaysBy source stands images → HasNoneAsFar images table))

-- Why a level is not told in numbers: as its limit is not read, as 83 with V7 if that is above the number of boards, or as they are not
-- counted up to it.
abbrev pub IsNumbersFault : Source → Stands → ℕ → FolderFault → Type 0
IsNumbersFault source stands level fault = IsLimitUnread source level (stands level) fault
    ⊎ ((limit : ℕ) × ((images : List Image) → SaysBy source stands images → limit ≡ limit_of images level)
    × (((fault ≡ wrong_limit level) × (size_of level < limit)) ⊎ IsTallyFault source stands (values_table level limit) fault))

-- one of the levels that are asked for is not
pub record IsCountsFault (source : Source) (stands : Stands) (asked : Option ℕ) (fault : FolderFault) : Type 0 where
  pub level : ℕ
  pub known : level < levels_of source
  pub is_asked : IfSome asked (λ number. level ≡ number)
  pub due : IsNumbersFault source stands level fault
