-- The lines that tell what the legal moves of a board are worth.
use Rattle.std.specs.Prelude.{ℕ, ◌==◌, if◌then◌else◌, Bool, false, List, ◌++◌, ◌∷◌, [], codes, ℤ, Option, Some, None}
use Rattle.std.specs.Fmt.{signed_decimal}
use Rattle.std.specs.List.{flat_map}
use Rattle.awari_members.specs.Members.{Named, line_text, number, signed}
use Rattle.awari_members.specs.declared.forms.Form.TheVariants.{Text}
use Rattle.awari_play.specs.declared.replies.Replies.{Replies}
use Rattle.awari_play.specs.declared.weighing.Weighed.{Weighed}
use Rattle.awari_play.specs.declared.weighing.WeighedMove.{WeighedMove}
use Rattle.awari_table.specs.declared.images.Entry.{Entry}

-- what marks the plan
abbrev pub plan_mark : Bool → List ℕ
plan_mark is_plan = if is_plan then codes " plan" else codes ""

abbrev pub replies_members : Option Replies → List Named
replies_members None = []
replies_members (Some replies) = number (codes "replies") replies.all ∷ number (codes "keep") replies.keep ∷ []

-- what is said of a move
abbrev pub worth_members : WeighedMove → List Named
worth_members m = number (codes "pit") m.worth.pit ∷ number (codes "captures") m.worth.captured ∷ signed (codes "value") m.worth.value
    ∷ number (codes "distance") m.worth.plies ∷ replies_members m.replies

-- whether the pit is the plan
abbrev pub is_planned : Option ℕ → ℕ → Bool
is_planned None pit = false
is_planned (Some plan) pit = plan == pit

-- the line of a move, with its line feed (10)
abbrev pub move_line : Option ℕ → WeighedMove → List ℕ
move_line plan m = line_text Text (worth_members m) ++ plan_mark (is_planned plan m.worth.pit) ++ 10 ∷ []

unfoldable pub move_lines : Option ℕ → List WeighedMove → List ℕ
move_lines plan moves = flat_map (move_line plan) moves

-- the line of the end, with its line feed
abbrev pub end_line : ℤ → List ℕ
end_line gain = codes "ended " ++ signed_decimal gain ++ 10 ∷ []

-- the end of a board that has no legal move, and otherwise the lines of its moves
abbrev pub moves_text : Entry → List WeighedMove → List ℕ
moves_text e [] = end_line e.value
moves_text e (m ∷ moves) = move_lines e.plan (m ∷ moves)

abbrev pub weighed_text : Weighed → List ℕ
weighed_text w = moves_text w.entry w.moves.items
