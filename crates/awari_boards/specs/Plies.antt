-- The command `line` with `--plies`: a line of play ply by ply.
use Rattle.std.specs.Prelude.{ℕ, Bool, false, List, [], ◌∷◌, ◌++◌, take, codes, Option, Some, None}
use Rattle.std.specs.List.{flat_map}
use Rattle.awari_members.specs.Members.{Named, board, line_text, number, signed}
use Rattle.awari_play.specs.declared.plies.Ply.{Ply}
use Rattle.awari_play.specs.declared.plies.Repeat.{Repeat}
use Rattle.awari_members.specs.Forms.{form_of}

-- a ply, and where the line comes back to a board
abbrev pub ply_members : Ply → List Named
ply_members ply = number (codes "ply") ply.number ∷ number (codes "pit") ply.pit ∷ number (codes "captures") ply.captured ∷ signed (codes "running") ply.running
    ∷ board (codes "board") ply.board ∷ signed (codes "value") ply.entry.value ∷ number (codes "distance") ply.entry.dist ∷ []

unfoldable pub shown_ply : Bool → Ply → List ℕ
shown_ply json ply = line_text (form_of json false) (ply_members ply)

unfoldable pub shown_repeat : Bool → Repeat → List ℕ
shown_repeat json r = line_text (form_of json false) (number (codes "repeats") r.first ∷ [])

-- each ply with a line feed (10) behind it
abbrev pub shown_plies : Bool → List Ply → List ℕ
shown_plies json plies = flat_map (λ ply. shown_ply json ply ++ 10 ∷ []) plies

-- all plies, or those up to the repeat and what it repeats
abbrev pub shown_line : Bool → List Ply → Option Repeat → List ℕ
shown_line json plies None = shown_plies json plies
shown_line json plies (Some r) = shown_plies json (take r.again plies) ++ (shown_repeat json r ++ 10 ∷ [])
