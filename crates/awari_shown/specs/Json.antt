-- Answers as JSON, each an object of members on a line.
use Rattle.std.specs.Prelude.{ℕ, List, [], ◌∷◌, ◌++◌, map, codes, Option}
use Rattle.awari_faults.specs.Meanings.{name_of}
use Rattle.awari_members.specs.Json.{array, json_string}
use Rattle.awari_members.specs.Members.{Named, board, line_text, number, pit, signed, text, truth}
use Rattle.awari_shown.specs.Moves.{is_planned, worth_members}
use Rattle.awari_play.specs.declared.weighing.Weighed.{Weighed}
use Rattle.awari_play.specs.declared.weighing.WeighedMove.{WeighedMove}
use Rattle.awari_members.specs.declared.forms.Form.TheVariants.{Json}
use Rattle.awari_table.specs.declared.images.Entry.{Entry}

-- a legal move: what its line has, and whether it is the plan
unfoldable pub move_json : Option ℕ → WeighedMove → List ℕ
move_json plan m = line_text Json (worth_members m ++ truth (codes "plan") (is_planned plan m.worth.pit) ∷ [])

abbrev pub entry_members : List ℕ → Entry → List Named
entry_members pits e = board (codes "board") pits ∷ signed (codes "value") e.value ∷ pit (codes "plan") e.plan ∷ number (codes "distance") e.dist ∷ []

-- what `ask` prints of a board, with its line feed (10)
unfoldable pub entry_json : List ℕ → Entry → List ℕ
entry_json pits e = line_text Json (entry_members pits e) ++ 10 ∷ []

abbrev pub moves_member : Option ℕ → List WeighedMove → Named
moves_member plan moves = record { name = codes "moves"; value = λ form. array (map (move_json plan) moves) }

-- what `moves` prints of a board, with its line feed
unfoldable pub weighed_json : List ℕ → Weighed → List ℕ
weighed_json pits w = line_text Json (entry_members pits w.entry ++ moves_member w.entry.plan w.moves.items ∷ []) ++ 10 ∷ []

abbrev pub request_member : List ℕ → Named
request_member request = record { name = codes "request"; value = λ form. json_string request }

-- a request that was refused, with the number and the name of the refusal, and a line feed
unfoldable pub refusal_json : List ℕ → ℕ → List ℕ
refusal_json request refused = line_text Json (request_member request ∷ number (codes "refused") refused ∷ text (codes "name") (name_of refused) ∷ []) ++ 10 ∷ []
