-- The commands `rank` and `board`: a board's place in its level, and what is printed of it.
use Rattle.std.specs.Prelude.{◌≡◌, ℕ, ◌<◌, ◌≤◌, List, ◌++◌, ◌∷◌, [], sum, codes, Option}
use Rattle.std.specs.Fmt.{decimal}
use Rattle.std.specs.Io.KnownBytes.{Appends}
use Rattle.awari_board.specs.BoardFault.{IsFaulty}
use Rattle.awari_board.specs.Rules.{IsBoard}
use Rattle.awari_board.specs.Text.{text_of}
use Rattle.awari_rank.specs.Rank.{rank_of, size_of}
use Rattle.awari_table.specs.declared.TheConstants.{HIGHEST_LEVEL}
use Rattle.awari_answers.specs.declared.asked.NoAnswer.{NoAnswer}
use Rattle.awari_answers.specs.declared.asked.NoAnswer.TheVariants.{Board, NotYet, NoRank}
use Rattle.awari_boards.specs.declared.places.Place.{Place}

-- the text spells a board of this level and rank
pub record IsPlaceOf (text : List ℕ) (place : Place) : Type 0 where
  pub board : List ℕ
  pub whole : IsBoard board
  pub spelled : text ≡ text_of board
  pub low : place.level ≤ HIGHEST_LEVEL
  pub level : place.level ≡ sum board
  pub rank : place.rank ≡ rank_of board

-- the text is that of a board with more stones than the highest level
pub record IsAboveHighest (text : List ℕ) : Type 0 where
  pub board : List ℕ
  pub whole : IsBoard board
  pub spelled : text ≡ text_of board
  pub high : HIGHEST_LEVEL < sum board

-- the fault of the text, or where it is that of a board, that it has too many stones
abbrev pub IsNoPlace : List ℕ → NoAnswer → Type 0
IsNoPlace text (Board fault) = IsFaulty text fault
IsNoPlace text (NotYet fault) = IsAboveHighest text × (fault.levels ≡ 25)
IsNoPlace text other = ⊥

-- the board of this level and rank
pub record IsBoardAt (level rank : ℕ) (board : List ℕ) : Type 0 where
  pub low : level ≤ HIGHEST_LEVEL
  pub whole : IsBoard board
  pub stones : sum board ≡ level
  pub ranked : rank_of board ≡ rank

-- the level is above the highest, or has fewer boards
abbrev pub IsNoBoard : ℕ → ℕ → NoAnswer → Type 0
IsNoBoard level rank (NotYet fault) = (HIGHEST_LEVEL < level) × (fault.levels ≡ 25)
IsNoBoard level rank (NoRank boards) = (level ≤ HIGHEST_LEVEL) × (boards ≡ size_of level) × (boards ≤ rank)
IsNoBoard level rank other = ⊥

abbrev pub place_text : Place → List ℕ
place_text place = decimal place.level ++ codes " " ++ decimal place.rank

-- Where it is known what the writer holds, what was written is the place of the board that the text spells, and the line feed.
abbrev pub PrintsPlace : List ℕ → Option (List ℕ) → Option (List ℕ) → Type 0
PrintsPlace text before after = (place : Place) × IsPlaceOf text place × Appends before after (place_text place ++ 10 ∷ [])

-- the board of this level and rank, and the line feed
abbrev pub PrintsBoard : ℕ → ℕ → Option (List ℕ) → Option (List ℕ) → Type 0
PrintsBoard level rank before after = (board : List ℕ) × IsBoardAt level rank board × Appends before after (text_of board ++ 10 ∷ [])
