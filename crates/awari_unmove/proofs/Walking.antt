-- A loop over the quiet moves backward: what is seen, and what is left.
use Rattle.std.proofs.Common.{◌≡◌, ℕ, List, [], ◌∷◌, ◌++◌, Contains, sym, subst}
use Rattle.std.proofs.lemmas.List.Elements.{Contains-push, Contains-append_left, Contains-append_right}
use Rattle.awari_unmove.specs.Predecessors.{IsQuiet, IsPredecessors}

-- what comes next is a quiet move
pub IsQuiet-next : (q : List ℕ) (seen left more : List (List ℕ × ℕ)) (pair : List ℕ × ℕ) → IsPredecessors q (seen ++ left) → left ≡ pair ∷ more → IsQuiet pair.0 pair.1 q
IsQuiet-next q seen left more pair all is =
    let here : Contains (pair ∷ more) pair = Contains-append_left (pair ∷ []) more pair (Contains-push [] pair) in
    let there : Contains left pair = subst (λ l. Contains l pair) (sym is) here in
    (all.listed pair.0 pair.1).0 (Contains-append_right seen left pair there)
