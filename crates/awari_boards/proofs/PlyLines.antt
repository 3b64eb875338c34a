-- The lines of plies, one after the other.
use Rattle.std.proofs.Common.{◌≡◌, Bool, ℕ, ◌+◌, ◌<◌, List, [], ◌∷◌, ◌++◌, length, take, get_or, Option, sym, ap, ◌∙◌, subst}
use Rattle.std.proofs.KnownBytes.{Appends-trans}
use Rattle.std.proofs.lemmas.Grind.{flat_map-append}
use Rattle.std.proofs.lemmas.List.{append-nil, take_more}
use Rattle.std.specs.Io.KnownBytes.{Appends}
use Rattle.awari_boards.specs.Plies.{shown_plies, shown_ply}
use Rattle.awari_play.specs.declared.plies.Ply.{Ply}

lines_more : (json : Bool) (plies : List Ply) (i : ℕ) (ply : Ply) → i < length plies → ply ≡ get_or plies i ply → shown_plies json (take (i + 1) plies) ≡ shown_plies json (take i plies) ++ (shown_ply json ply ++ 10 ∷ [])
lines_more json plies i ply lt is =
    ap (shown_plies json) (take_more plies i ply lt ∙ ap (λ (p : Ply). take i plies ++ p ∷ []) (sym is))
    ∙ flat_map-append (λ (p : Ply). shown_ply json p ++ 10 ∷ []) (take i plies) (ply ∷ [])
    ∙ ap (λ (t : List ℕ). shown_plies json (take i plies) ++ t) (append-nil (shown_ply json ply ++ 10 ∷ []))

pub lines_next : (json : Bool) (plies : List Ply) (i : ℕ) (ply : Ply) (before now after : Option (List ℕ)) → i < length plies → ply ≡ get_or plies i ply → Appends before now (shown_plies json (take i plies))
    → Appends now after (shown_ply json ply ++ 10 ∷ []) → Appends before after (shown_plies json (take (i + 1) plies))
lines_next json plies i ply before now after lt is so_far next = subst (Appends before after) (sym (lines_more json plies i ply lt is)) (Appends-trans before now after _ _ so_far next)
