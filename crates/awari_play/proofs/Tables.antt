-- Entries that differ in their plans alone, and plans set one after another.
use Rattle.std.proofs.Common.{◌≡◌, ℕ, ◌+◌, ◌<◌, List, [], ◌∷◌, ◌++◌, length, get_or, set, sum, Option, refl, sym, ap, ◌∙◌, subst, arith, inl, inr, length-append, get_or-set_same, get_or-set_other, ℤ}
use Rattle.std.proofs.lemmas.Bool.{cases_lt, cases_eq}
use Rattle.std.proofs.lemmas.List.{length-set}
use Rattle.awari_board.specs.Rules.{IsBoard}
use Rattle.awari_rank.specs.Rank.{rank_of}
use Rattle.awari_rank.proofs.Ranking.{rank_fixes}
use Rattle.awari_table.specs.declared.images.Entry.{Entry}
use Rattle.awari_table.specs.declared.images.Image.{Image}
use Rattle.awari_table.specs.Images.{entry_of, table_of, no_entry}
use Rattle.awari_table.proofs.EntryLemmas.{entry_of-append, entry_of-rank, entry_of-above}
use Rattle.awari_play.specs.Plan.{IsLowest}
use Rattle.awari_play.specs.Planning.{ArePlannedBelow, SameSettled, with_top}
use Rattle.awari_play.proofs.Serving.{lowest_alike}

-- a property of both images' entries, wherever the board is
alike_by : (X : Type 0) (f : Entry → X) (shelf : List Image) (a b : Image) → ((k : ℕ) → f (get_or b.entries k no_entry) ≡ f (get_or a.entries k no_entry))
    → (p : List ℕ) → f (entry_of (shelf ++ b ∷ []) p) ≡ f (entry_of (shelf ++ a ∷ []) p)
alike_by X f shelf a b same p = elim (cases_lt (sum p) (length shelf)) [
  | inl low ↦ ap f (entry_of-append shelf (b ∷ []) p low ∙ sym (entry_of-append shelf (a ∷ []) p low))
  | inr high ↦ elim (cases_lt (length shelf) (sum p)) [
    | inl above ↦ ap f (entry_of-above (shelf ++ b ∷ []) p (omega (arith, above, length-append shelf (b ∷ []))) ∙ sym (entry_of-above (shelf ++ a ∷ []) p (omega (arith, above, length-append shelf (a ∷ [])))))
    | inr not_above ↦
        let top : sum p ≡ length shelf = omega (arith, high, not_above) in
        ap f (entry_of-rank shelf b p (rank_of p) top refl) ∙ same (rank_of p) ∙ sym (ap f (entry_of-rank shelf a p (rank_of p) top refl))
  ]
]

-- images whose entries differ in their plans alone say the same values and distances, and so have the same lowest plans
pub lowest_alike_images : (shelf : List Image) (a b : Image) → SameSettled a.entries b.entries → (p : List ℕ) (plan : Option ℕ)
    → IsLowest (table_of (shelf ++ a ∷ [])) p plan → IsLowest (table_of (shelf ++ b ∷ [])) p plan
lowest_alike_images shelf a b same p plan lowest =
    lowest_alike (table_of (shelf ++ a ∷ [])) (table_of (shelf ++ b ∷ [])) p plan
    (alike_by _ (λ e. e.value) shelf a b same.value) (alike_by _ (λ e. e.dist) shelf a b same.dist) lowest

pub same_settled : (entries : List Entry) → SameSettled entries entries
same_settled entries = record { size = refl; value = λ k. refl; dist = λ k. refl }

pub same_back : (old new : List Entry) → SameSettled old new → SameSettled new old
same_back old new same = record { size = sym same.size; value = λ k. sym (same.value k); dist = λ k. sym (same.dist k) }

-- one plan more is set
pub same_set : (old now : List Entry) (rank : ℕ) (e : Entry) → SameSettled old now → rank < length now → e.value ≡ (get_or now rank no_entry).value → e.dist ≡ (get_or now rank no_entry).dist → SameSettled old (set now rank e)
same_set old now rank e same inside value dist = record {
  size = length-set now rank e ∙ same.size;
  value = λ k. each_set ℤ (λ x. x.value) k value (same.value k);
  dist = λ k. each_set ℕ (λ x. x.dist) k dist (same.dist k);
}
  where
    each_set : (X : Type 0) (f : Entry → X) (k : ℕ) → f e ≡ f (get_or now rank no_entry) → f (get_or now k no_entry) ≡ f (get_or old k no_entry) → f (get_or (set now rank e) k no_entry) ≡ f (get_or old k no_entry)
    each_set X f k is was = elim (cases_eq k rank) [
      | inl here ↦ ap (λ j. f (get_or (set now rank e) j no_entry)) here ∙ ap f (get_or-set_same now rank e no_entry inside) ∙ is ∙ ap (λ j. f (get_or now j no_entry)) (sym here) ∙ was
      | inr other ↦ ap f (get_or-set_other now rank k e no_entry other) ∙ was
    ]

pub planned_none : (shelf : List Image) (old new : List Entry) → ArePlannedBelow shelf old new 0
planned_none shelf old new p whole stones below = absurd (omega (arith, below))

-- the plan of the board of this rank is set, after those of smaller ranks
pub planned_more : (shelf : List Image) (old now : List Entry) (rank : ℕ) (board : List ℕ) (e : Entry) → SameSettled old now → ArePlannedBelow shelf old now rank → rank < length now
    → IsBoard board → sum board ≡ length shelf → rank_of board ≡ rank → IsLowest (table_of (with_top shelf now)) board e.plan → ArePlannedBelow shelf old (set now rank e) (rank + 1)
planned_more shelf old now rank board e same planned inside is_board on_level ranked lowest p whole stones below = elim (cases_eq (rank_of p) rank) [
  | inl here ↦
      let is : board ≡ p = rank_fixes board p is_board.pits whole.pits (on_level ∙ sym stones) (ranked ∙ sym here) in
      let old_lowest : IsLowest (table_of (with_top shelf old)) board e.plan =
      lowest_alike_images shelf (record { level = length shelf; limit = 0; entries = now }) (record { level = length shelf; limit = 0; entries = old }) (same_back old now same) board e.plan lowest in
      let put : (get_or (set now rank e) (rank_of p) no_entry).plan ≡ e.plan = ap (λ j. (get_or (set now rank e) j no_entry).plan) here ∙ ap (λ x. x.plan) (get_or-set_same now rank e no_entry inside) in
      subst (λ plan. IsLowest (table_of (with_top shelf old)) p plan) (sym put) (subst (λ b. IsLowest (table_of (with_top shelf old)) b e.plan) is old_lowest)
  | inr other ↦
      let kept : (get_or (set now rank e) (rank_of p) no_entry).plan ≡ (get_or now (rank_of p) no_entry).plan = ap (λ x. x.plan) (get_or-set_other now rank (rank_of p) e no_entry other) in
      subst (λ plan. IsLowest (table_of (with_top shelf old)) p plan) (sym kept) (planned p whole stones (omega arith))
]
