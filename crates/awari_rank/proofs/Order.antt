-- The lexicographic comparison, and the order of the ranks.
use Rattle.std.proofs.Common.{◌≡◌, ℕ, ◌<◌, ◌↔◌, true, List, length, sum, refl, sym, ◌∙◌, ap, arith}
use Rattle.std.specs.Ordering.{nat_cmp, is_lt, ordering_reverse}
use Rattle.std.specs.declared.cmp.Ordering.{Ordering}
use Rattle.std.specs.declared.cmp.Ordering.TheVariants.{Less, Equal, Greater}
use Rattle.std.specs.Cmp.Lexicographic.{slice_cmp}
use Rattle.std.specs.FinMap.{nat_cmp-IsAntisymmetric, slice_cmp-IsAntisymmetric}
use Rattle.std.proofs.lemmas.Cmp.{nat_list_cmp_total}
use Rattle.std.proofs.lemmas.Map.Text.{is_eq-slice_cmp}
use Rattle.std.proofs.lemmas.Slice.Eq.{bytes_eq-Decides}
use Rattle.awari_rank.specs.Rank.{is_smaller, is_same, rank_of}
use Rattle.awari_rank.proofs.Ranking.{rank_rises}

pub same_equal : (a b : List ℕ) → (is_same a b ≡ true) ↔ (a ≡ b)
same_equal a b =
    (λ same. (bytes_eq-Decides a b).0 (sym (is_eq-slice_cmp a b) ∙ same), λ equal. is_eq-slice_cmp a b ∙ (bytes_eq-Decides a b).1 equal)

ordered : (b c : List ℕ) → length b ≡ 12 → length c ≡ 12 → sum b ≡ sum c → rank_of b < rank_of c → (o : Ordering) → slice_cmp nat_cmp b c ≡ o → is_smaller b c ≡ true
ordered b c long_b long_c stones less Less is = ap is_lt is
ordered b c long_b long_c stones less Equal is =
    let same : b ≡ c = slice_cmp-IsAntisymmetric nat_cmp-IsAntisymmetric b c is in
    absurd (omega (arith, ap rank_of same))
ordered b c long_b long_c stones less Greater is =
    let reverse : is_smaller c b ≡ true = ap is_lt (nat_list_cmp_total.antisymm c b ∙ ap ordering_reverse is) in
    absurd (omega (arith, rank_rises c b long_c long_b (sym stones) reverse))

-- of two boards of as many stones, the one of the smaller rank is the smaller one
pub rank_orders : (b c : List ℕ) → length b ≡ 12 → length c ≡ 12 → sum b ≡ sum c → rank_of b < rank_of c → is_smaller b c ≡ true
rank_orders b c long_b long_c stones less =
    let same : slice_cmp nat_cmp b c ≡ slice_cmp nat_cmp b c = refl in
    ordered b c long_b long_c stones less (slice_cmp nat_cmp b c) same
