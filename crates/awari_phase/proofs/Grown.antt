-- What a round keeps of a grid.
use Rattle.std.proofs.Common.{◌≡◌, ℕ, ◌<◌, List, [], ◌∷◌, length, get_or, sym, subst, ◌∙◌, arith}
use Rattle.std.proofs.lemmas.List.{length-map, get_or_default}
use Rattle.std.proofs.Math.ListN.{get_or-map}
use Rattle.awari_block.specs.Each.{EachTo}
use Rattle.awari_lines.specs.Rings.{IsGrid, SamePairs}
use Rattle.awari_lines.specs.declared.ends.Ends.{Ends}
use Rattle.awari_lines.proofs.Grids.{grid_kept}
use Rattle.awari_phase.specs.declared.owners.Owner.{Owner}
use Rattle.awari_phase.specs.Owners.{Kept, Notes, all_ends, ends_of}

-- an owner of a list that is not empty
pub some : (os : List Owner) → 0 < length os → Owner
some [] h = absurd (omega (arith, h))
some (o ∷ os) h = o

-- the ends at a place are those of the owner there
pub ends_at : (os : List Owner) (x : ℕ) (e : Ends Notes) (d : Owner) → x < length os → get_or (all_ends os) x e ≡ (get_or os x d).ends
ends_at os x e d h =
    let long = length-map os ends_of in
    get_or_default (all_ends os) x e d.ends (omega (arith, h, long)) ∙ get_or-map ends_of os x d

-- owners on the same rings stand on a grid where they did
pub grid_pairs : (os ps : List Owner) → length ps ≡ length os → ((i : ℕ) (d : Owner) → i < length os → SamePairs (get_or os i d).ends (get_or ps i d).ends) → IsGrid (all_ends os) → IsGrid (all_ends ps)
grid_pairs os ps long pairs g =
    let lo = length-map os ends_of in
    let lp = length-map ps ends_of in
    grid_kept (all_ends os) (all_ends ps) (lp ∙ long ∙ sym lo) (λ x e h. at x e (omega (arith, h, lo))) g
  where
    at : (x : ℕ) (e : Ends Notes) → x < length os → SamePairs (get_or (all_ends os) x e) (get_or (all_ends ps) x e)
    at x e h =
        let d = some os (omega (arith, h)) in
        subst (λ (u : Ends Notes). SamePairs u (get_or (all_ends ps) x e)) (sym (ends_at os x e d h))
        (subst (λ (u : Ends Notes). SamePairs (get_or os x d).ends u) (sym (ends_at ps x e d (omega (arith, h, long)))) (pairs x d h))

pub grid_after : (os ps : List Owner) → EachTo Kept os ps → IsGrid (all_ends os) → IsGrid (all_ends ps)
grid_after os ps kept g = grid_pairs os ps kept.many (λ i d h. (kept.each i d h).pairs) g
