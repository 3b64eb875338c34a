-- The command `line`: the play in which both sides follow the plans of a folder's levels, or one side holds out; and what is printed of it.
use Rattle.std.specs.Prelude.{◌≡◌, ℕ, Bool, true, false, List, ◌++◌, ◌∷◌, [], codes, ℤ, Option}
use Rattle.std.specs.Fmt.{decimal, signed_decimal}
use Rattle.std.specs.List.{flat_map}
use Rattle.std.specs.Io.KnownBytes.{Appends}
use Rattle.awari_folder.specs.Contents.{Stands}
use Rattle.awari_members.specs.Members.{line_text as line_text_in, number, pits, signed, text}
use Rattle.awari_play.specs.BestLine.{IsBestLine}
use Rattle.awari_play.specs.LongestLine.{IsLongestLine}
use Rattle.awari_play.specs.Plies.{AreLinePlies}
use Rattle.awari_play.specs.declared.plies.Ply.{Ply}
use Rattle.awari_play.specs.declared.plies.Repeat.{Repeat}
use Rattle.awari_members.specs.declared.forms.Form.TheVariants.{Json}
use Rattle.awari_queries.specs.declared.questions.LineQuery.{LineQuery}
use Rattle.awari_table.specs.Images.{entry_of, greatest_limit, table_of}
use Rattle.awari_table.specs.declared.images.Image.{Image}
use Rattle.awari_boards.specs.Known.{IsKnown}
use Rattle.awari_boards.specs.Plies.{shown_line}

-- The images say this value of the board, and these moves are the play from it in which both sides follow their plans, by their
-- greatest limit, up to this outcome.
pub record SayLine (board : List ℕ) (value : ℤ) (moves : List ℕ) (outcome : ℤ) (images : List Image) : Type 0 where
  pub valued : value ≡ (entry_of images board).value
  pub line : IsBestLine (table_of images) (greatest_limit images) board moves outcome

-- The images say this value and this distance of the board, and these moves are the play from it in which the favoured side follows
-- their plans and the other side holds out. By right levels it has exactly that many plies.
pub record SayLongest (board : List ℕ) (value : ℤ) (dist : ℕ) (moves : List ℕ) (images : List Image) : Type 0 where
  pub valued : value ≡ (entry_of images board).value
  pub far : dist ≡ (entry_of images board).dist
  pub line : IsLongestLine (table_of images) board moves

-- such a line from the board that the text spells; by right levels its outcome is the value
pub record IsLineOf (unverified : Bool) (stands : Stands) (text : List ℕ) (value : ℤ) (moves : List ℕ) (outcome : ℤ) : Type 0 where
  pub board : List ℕ
  pub line : IsKnown unverified stands text board (SayLine board value moves outcome)
  pub comes : unverified ≡ false → outcome ≡ value

-- each pit after a space
abbrev pub moves_text : List ℕ → List ℕ
moves_text moves = flat_map (λ pit. codes " " ++ decimal pit) moves

abbrev pub line_text : ℤ → List ℕ → ℤ → List ℕ
line_text value moves outcome = codes "value " ++ signed_decimal value ++ codes "\nmoves" ++ moves_text moves ++ codes "\noutcome " ++ signed_decimal outcome

abbrev pub longest_text : ℤ → ℕ → List ℕ → List ℕ
longest_text value dist moves = codes "value " ++ signed_decimal value ++ codes "\ndistance " ++ decimal dist ++ codes "\nmoves" ++ moves_text moves

-- the same lines as JSON, with the text of the board
unfoldable pub line_json : List ℕ → ℤ → List ℕ → ℤ → List ℕ
line_json bytes value moves outcome = line_text_in Json (text (codes "board") bytes ∷ signed (codes "value") value ∷ pits (codes "moves") moves ∷ signed (codes "outcome") outcome ∷ [])

unfoldable pub longest_json : List ℕ → ℤ → ℕ → List ℕ → List ℕ
longest_json bytes value dist moves = line_text_in Json (text (codes "board") bytes ∷ signed (codes "value") value ∷ number (codes "distance") dist ∷ pits (codes "moves") moves ∷ [])

-- as JSON with the text of the board, or as lines
abbrev pub shown_best : Bool → List ℕ → ℤ → List ℕ → ℤ → List ℕ
shown_best true text value moves outcome = line_json text value moves outcome
shown_best false text value moves outcome = line_text value moves outcome

abbrev pub shown_longest : Bool → List ℕ → ℤ → ℕ → List ℕ → List ℕ
shown_longest true text value dist moves = longest_json text value dist moves
shown_longest false text value dist moves = longest_text value dist moves

-- Where it is known what the writer holds, what was written is the line of play that is asked for: ply by ply, with one side that
-- holds out, or by the plans of both sides.
abbrev pub PrintsLineBy : Bool → Bool → LineQuery → Stands → Option (List ℕ) → Option (List ℕ) → Type 0
PrintsLineBy true longest q stands before after = (board : List ℕ) × (plies : List Ply) × (repeat : Option Repeat)
    × IsKnown q.unverified stands q.board.now board (λ images. AreLinePlies q.longest images board plies repeat) × Appends before after (shown_line q.json plies repeat)
PrintsLineBy false true q stands before after = (board : List ℕ) × (value : ℤ) × (dist : ℕ) × (moves : List ℕ)
    × IsKnown q.unverified stands q.board.now board (SayLongest board value dist moves) × Appends before after (shown_longest q.json q.board.now value dist moves ++ 10 ∷ [])
PrintsLineBy false false q stands before after = (value : ℤ) × (moves : List ℕ) × (outcome : ℤ) × IsLineOf q.unverified stands q.board.now value moves outcome
    × Appends before after (shown_best q.json q.board.now value moves outcome ++ 10 ∷ [])

abbrev pub PrintsLine : LineQuery → Stands → Option (List ℕ) → Option (List ℕ) → Type 0
PrintsLine q = PrintsLineBy q.plies q.longest q
