-- What is asked of `counts --by`. Private functions alone go by this: no public contract does.
use Rattle.std.specs.Prelude.{◌≡◌, ◌⊎◌, ◌+◌, ◌<◌, ℕ, List, Option, Some, None}
use Rattle.std.specs.Borrow.{Bor}
use Rattle.awari_answers.specs.declared.asked.NoAnswer.{NoAnswer}
use Rattle.awari_answers.specs.declared.asked.NoAnswer.TheVariants.{Column}
use Rattle.awari_facts.specs.Sources.{limit_of}
use Rattle.awari_folder.specs.Contents.{AreNames, Stands}
use Rattle.awari_folder.specs.declared.faults.FolderFault.{FolderFault}
use Rattle.awari_members.specs.Forms.{form_of}
use Rattle.awari_places.specs.Faults.{IsLimitFault, IsUnread}
use Rattle.awari_places.specs.Places.{Says}
use Rattle.awari_rank.specs.Rank.{size_of}
use Rattle.awari_table.specs.declared.images.Image.{Image}
use Rattle.awari_counts.specs.Tables.{IsCountFault, IsHeldCountFault, wrong_limit}
use Rattle.awari_queries.specs.Columns.{AsksForPair, HasNoPair}
use Rattle.awari_queries.specs.declared.columns.NoColumn.{NoColumn}
use Rattle.awari_queries.specs.declared.columns.NoColumn.TheVariants.{By, Level}
use Rattle.awari_queries.specs.declared.questions.CountsQuery.{CountsQuery}
use Rattle.awari_counts.specs.declared.pairs.Wish.{Wish}

-- a level is asked for, and two columns
pub record IsWish (query : CountsQuery) (wish : Wish) : Type 0 where
  pub level : query.level ≡ Some wish.level
  pub by : Bor (List ℕ)
  pub named : query.by ≡ Some by
  pub asked : AsksForPair by.now wish.pair
  pub form : wish.form ≡ form_of query.json query.csv

-- what is wrong with the word for the columns, if a level is asked for
abbrev pub IsNoPair : Option (Bor (List ℕ)) → NoColumn → Type 0
IsNoPair None fault = fault ≡ By
IsNoPair (Some by) fault = HasNoPair by.now fault

-- no level is asked for, or no two columns
abbrev pub IsNoWish : Option ℕ → Option (Bor (List ℕ)) → NoColumn → Type 0
IsNoWish None by fault = fault ≡ Level
IsNoWish (Some level) by fault = IsNoPair by fault

abbrev pub IsRefused : CountsQuery → NoAnswer → Type 0
IsRefused query (Column fault) = IsNoWish query.level query.by fault
IsRefused query other = ⊥

-- Why the boards of a level are not printed by its file: as its limit is not read, as 83 with V7 if that is above the number of
-- boards, or as they are not counted up to it.
abbrev pub IsPairsFault : Wish → Stands → FolderFault → Type 0
IsPairsFault wish stands fault = ((name : Option (List ℕ)) → stands wish.level ≡ Some name → IsLimitFault wish.level name fault)
    ⊎ ((limit : ℕ) × ((levels : ℕ) (images : List Image) → Says stands levels images → wish.level < levels → limit ≡ limit_of images wish.level)
    × (((fault ≡ wrong_limit wish.level) × (size_of wish.level < limit)) ⊎ IsCountFault (record { level = wish.level; pair = wish.pair; limit = limit }) stands fault))

-- The same by levels in memory.
abbrev pub IsHeldFault : Wish → List Image → FolderFault → Type 0
IsHeldFault wish images fault = ((fault ≡ wrong_limit wish.level) × (size_of wish.level < limit_of images wish.level))
    ⊎ IsHeldCountFault images (record { level = wish.level; pair = wish.pair; limit = limit_of images wish.level }) fault

-- The same by the levels up to this one, read into memory first.
abbrev pub IsReadFault : Wish → Stands → FolderFault → Type 0
IsReadFault wish stands fault = ((names : ℕ → Option (List ℕ)) → AreNames stands names → IsUnread (wish.level + 1) names fault)
    ⊎ ((images : List Image) × ((said : List Image) → Says stands (wish.level + 1) said → images ≡ said) × IsHeldFault wish images fault)
