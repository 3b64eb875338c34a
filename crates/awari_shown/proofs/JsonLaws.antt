-- Objects, put together from their parts.
use Rattle.std.proofs.Common.{◌≡◌, ℕ, List, [], ◌∷◌, ◌++◌, Option, map, sym, ap, ◌∙◌, append-nil, append_assoc}
use Rattle.std.specs.Prelude.{codes}
use Rattle.awari_faults.specs.Meanings.{name_of}
use Rattle.awari_members.proofs.MemberLaws.{json-line, marked-append}
use Rattle.awari_members.specs.Json.{commas, json_string}
use Rattle.awari_members.specs.Members.{Named, board, line_text, marked, number, pit, signed, text, truth}
use Rattle.awari_shown.specs.Json.{entry_json, entry_members, move_json, moves_member, refusal_json, request_member, weighed_json}
use Rattle.awari_shown.specs.Moves.{is_planned, replies_members, worth_members}
use Rattle.awari_play.specs.declared.weighing.Weighed.{Weighed}
use Rattle.awari_play.specs.declared.weighing.WeighedMove.{WeighedMove}
use Rattle.awari_members.specs.declared.forms.Form.TheVariants.{Json}
use Rattle.awari_table.specs.declared.images.Entry.{Entry}

-- an object with its line feed
closed-line : (m : Named) (members : List Named) → marked Json (codes "{") (m ∷ members) ++ codes "}\n" ≡ line_text Json (m ∷ members) ++ 10 ∷ []
closed-line m members = sym (append_assoc (marked Json (codes "{") (m ∷ members)) (125 ∷ []) (10 ∷ [])) ∙ ap (λ t. t ++ 10 ∷ []) (json-line (m ∷ members))

-- the members of an entry behind the board
abbrev later_entry : Entry → List Named
later_entry e = signed (codes "value") e.value ∷ pit (codes "plan") e.plan ∷ number (codes "distance") e.dist ∷ []

pub entry_json-parts : (pits : List ℕ) (e : Entry) → marked Json (codes "{") (entry_members pits e) ++ codes "}\n" ≡ entry_json pits e
unfolding entry_json
entry_json-parts pits e = closed-line (board (codes "board") pits) (later_entry e)

pub weighed_json-parts : (pits : List ℕ) (w : Weighed)
    → marked Json (codes "{") (entry_members pits w.entry) ++ (codes ",\"moves\":[" ++ (commas (map (move_json w.entry.plan) w.moves.items) ++ codes "]}\n")) ≡ weighed_json pits w
unfolding weighed_json
weighed_json-parts pits w =
    ap (λ t. entry ++ (codes ",\"moves\":[" ++ t)) (sym (append_assoc moves (93 ∷ []) (codes "}\n")))
    ∙ ap (λ t. entry ++ (codes ",\"moves\":[" ++ t)) ap_nil
    ∙ sym (append_assoc entry (marked Json (codes ",") (moves_member w.entry.plan w.moves.items ∷ [])) (codes "}\n"))
    ∙ ap (λ t. t ++ codes "}\n") (sym (marked-append Json (codes "{") (board (codes "board") pits) (later_entry w.entry) (moves_member w.entry.plan w.moves.items ∷ [])))
    ∙ closed-line (board (codes "board") pits) (later_entry w.entry ++ moves_member w.entry.plan w.moves.items ∷ [])
  where
    entry : List ℕ
    entry = marked Json (codes "{") (entry_members pits w.entry)

    moves : List ℕ
    moves = commas (map (move_json w.entry.plan) w.moves.items)

    ap_nil : (moves ++ 93 ∷ []) ++ codes "}\n" ≡ ((moves ++ 93 ∷ []) ++ []) ++ codes "}\n"
    ap_nil = ap (λ t. t ++ codes "}\n") (sym (append-nil (moves ++ 93 ∷ [])))

pub move_json-parts : (plan : Option ℕ) (m : WeighedMove)
    → marked Json (codes "{") (worth_members m) ++ (marked Json (codes ",") (truth (codes "plan") (is_planned plan m.worth.pit) ∷ []) ++ 125 ∷ []) ≡ move_json plan m
unfolding move_json
move_json-parts plan m =
    sym (append_assoc (marked Json (codes "{") (worth_members m)) (marked Json (codes ",") is_plan) (125 ∷ []))
    ∙ ap (λ t. t ++ 125 ∷ []) (sym (marked-append Json (codes "{") pit_member later is_plan))
    ∙ json-line (pit_member ∷ later ++ is_plan)
  where
    pit_member : Named
    pit_member = number (codes "pit") m.worth.pit

    later : List Named
    later = number (codes "captures") m.worth.captured ∷ signed (codes "value") m.worth.value ∷ number (codes "distance") m.worth.plies ∷ replies_members m.replies

    is_plan : List Named
    is_plan = truth (codes "plan") (is_planned plan m.worth.pit) ∷ []

pub refusal_json-parts : (request : List ℕ) (refused : ℕ)
    → codes "{\"request\":" ++ (json_string request ++ (marked Json (codes ",") (number (codes "refused") refused ∷ text (codes "name") (name_of refused) ∷ []) ++ codes "}\n")) ≡ refusal_json request refused
unfolding refusal_json
refusal_json-parts request refused =
    ap (λ t. codes "{\"request\":" ++ t) (sym (append_assoc (json_string request) (marked Json (codes ",") later) (codes "}\n")))
    ∙ closed-line (request_member request) later
  where
    later : List Named
    later = number (codes "refused") refused ∷ text (codes "name") (name_of refused) ∷ []
