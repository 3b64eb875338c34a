-- Consistent levels whose plans are the lowest are one.
use Rattle.std.proofs.Common.{◌≡◌, ℕ, ◌<◌, ◌⊎◌, inl, inr, List, [], ◌∷◌, ◌++◌, length, take, get_or, sum, pos, ◌-ℤ◌, ◌<ℤ◌, Option, Some, None, refl, sym, ap, ◌∙◌, subst, arith, length-append}
use Rattle.std.proofs.Math.Seq.{get_or-append_seam}
use Rattle.std.proofs.lemmas.Bool.{cases_lt, cases_order}
use Rattle.std.proofs.lemmas.List.{ext_get_or, length-take-le}
use Rattle.awari_board.specs.Rules.{IsBoard, IsMove}
use Rattle.awari_board.proofs.Keeping.{IsBoard-next, sum-from_IsMove}
use Rattle.awari_rank.specs.Rank.{rank_of, size_of}
use Rattle.awari_rank.proofs.Reaching.{board_reached}
use Rattle.awari_table.specs.declared.images.Entry.{Entry}
use Rattle.awari_table.specs.declared.images.Image.{Image}
use Rattle.awari_table.specs.Certificate.{Table}
use Rattle.awari_table.specs.Images.{entry_of, table_of, no_entry, no_image, greatest_dist}
use Rattle.awari_table.specs.Shelves.{Consistent, IsShelf}
use Rattle.awari_table.proofs.EntryLemmas.{entry_of-append}
use Rattle.awari_table.proofs.ShelfLemmas.{IsShelf-push}
use Rattle.awari_theory.proofs.Truths.{values-agree, distances-agree}
use Rattle.awari_play.specs.Least.{HasLowestPlans, IsPlannedLowest}
use Rattle.awari_play.specs.Plan.{Serves, IsLowest}

-- ---- the lowest plan is one

-- the tables say the same value and distance
abbrev SameOf : Table → Table → List ℕ → Type 0
SameOf t u p = (t.value p ≡ u.value p) × (t.dist p ≡ u.dist p)

serves_local : (t u : Table) (p : List ℕ) (x : ℕ) → SameOf t u p → ((c : ℕ) (q : List ℕ) → IsMove p x c q → SameOf t u q) → Serves t p x → Serves u p x
serves_local t u p x here next (c, q, move, gain, near) =
    let there = next c q move in (
      c,
      q,
      move,
      ap (λ v. pos c -ℤ v) (sym there.0) ∙ gain ∙ here.0,
      λ up. subst (λ d. (0 < c) ⊎ (u.dist q < d)) here.1 (subst (λ d. (0 < c) ⊎ (d < t.dist p)) there.1 (near (subst (λ v. pos 0 <ℤ v) (sym here.0) up))),
    )

same_back : (t u : Table) (p : List ℕ) → SameOf t u p → SameOf u t p
same_back t u p same = (sym same.0, sym same.1)

lowest_one : (t u : Table) (p : List ℕ) (a b : Option ℕ) → SameOf t u p → ((x c : ℕ) (q : List ℕ) → IsMove p x c q → SameOf t u q) → IsLowest t p a → IsLowest u p b → a ≡ b
lowest_one t u p None None here next a b = refl
lowest_one t u p None (Some y) here next a b = absurd (a y (serves_local u t p y (same_back t u p here) (λ c q move. same_back t u q (next y c q move)) b.0))
lowest_one t u p (Some x) None here next a b = absurd (b x (serves_local t u p x here (next x) a.0))
lowest_one t u p (Some x) (Some y) here next a b = elim (cases_order x y) [
  | inl same ↦ ap Some same
  | inr (inl below) ↦ absurd (b.1 x below (serves_local t u p x here (next x) a.0))
  | inr (inr above) ↦ absurd (a.1 y above (serves_local u t p y (same_back t u p here) (λ c q move. same_back t u q (next y c q move)) b.0))
]

lowest_local : (t u : Table) (p : List ℕ) (plan : Option ℕ) → SameOf t u p → ((x c : ℕ) (q : List ℕ) → IsMove p x c q → SameOf t u q) → IsLowest t p plan → IsLowest u p plan
lowest_local t u p None here next lowest = λ x serves. lowest x (serves_local u t p x (same_back t u p here) (λ c q move. same_back t u q (next x c q move)) serves)
lowest_local t u p (Some x) here next lowest =
    (serves_local t u p x here (next x) lowest.0, λ y below serves. lowest.1 y below (serves_local u t p y (same_back t u p here) (λ c q move. same_back t u q (next y c q move)) serves))

-- ---- one entry, one image

entry_same : (e f : Entry) → e.value ≡ f.value → e.plan ≡ f.plan → e.dist ≡ f.dist → e ≡ f
entry_same e f value plan dist =
    ap (λ v. record { value = v; plan = e.plan; dist = e.dist }) value ∙ ap (λ x. record { value = f.value; plan = x; dist = e.dist }) plan
    ∙ ap (λ d. record { value = f.value; plan = f.plan; dist = d }) dist

image_same : (a b : Image) → a.level ≡ b.level → a.limit ≡ b.limit → a.entries ≡ b.entries → a ≡ b
image_same a b level limit entries =
    ap (λ l. record { level = l; limit = a.limit; entries = a.entries }) level ∙ ap (λ l. record { level = b.level; limit = l; entries = a.entries }) limit
    ∙ ap (λ es. record { level = b.level; limit = b.limit; entries = es }) entries

entry_of-at : (levels : List Image) (p : List ℕ) (i r : ℕ) → sum p ≡ i → rank_of p ≡ r → entry_of levels p ≡ get_or (get_or levels i no_image).entries r no_entry
unfolding entry_of
entry_of-at levels p i r stones ranked = rw (stones, ranked) refl

module _ (levels others : List Image) (shelf : IsShelf levels) (other : IsShelf others) where
  -- the two shelves say the same of a board that both have
  same_of : (p : List ℕ) → IsBoard p → sum p < length levels → sum p < length others → SameOf (table_of levels) (table_of others) p
  same_of p is low lower = (values-agree levels others shelf other p is low lower, distances-agree levels others shelf other p is low lower)

  plan_same : (p : List ℕ) → IsBoard p → sum p < length levels → sum p < length others → IsLowest (table_of levels) p (entry_of levels p).plan → IsLowest (table_of others) p (entry_of others p).plan
      → (entry_of levels p).plan ≡ (entry_of others p).plan
  plan_same p is low lower mine theirs =
      lowest_one (table_of levels) (table_of others) p _ _ (same_of p is low lower)
      (λ x c q move. let kept = sum-from_IsMove p x c q is.pits move in same_of q (IsBoard-next p x c q is move) (omega (arith, kept, low)) (omega (arith, kept, lower)))
      mine theirs

  abbrev level_at : List Image → ℕ → Image
  level_at shelf i = get_or shelf i no_image

  abbrev PlannedAt : List Image → ℕ → Type 0
  PlannedAt shelf i = (p : List ℕ) → IsBoard p → sum p ≡ i → IsLowest (table_of shelf) p (entry_of shelf p).plan

  pub level_same : (i : ℕ) → i < length levels → i < length others → PlannedAt levels i → PlannedAt others i → get_or levels i no_image ≡ get_or others i no_image
  level_same i low lower mine theirs = image_same (level_at levels i) (level_at others i) (a_level ∙ sym b_level) (a_is.limited ∙ ap greatest_dist entries ∙ sym b_is.limited) entries
    where
      a_is : Consistent (take i levels) (level_at levels i)
      a_is = shelf.consistent i low

      b_is : Consistent (take i others) (level_at others i)
      b_is = other.consistent i lower

      a_level : (level_at levels i).level ≡ i
      a_level = a_is.next ∙ length-take-le i levels (omega (arith, low))

      b_level : (level_at others i).level ≡ i
      b_level = b_is.next ∙ length-take-le i others (omega (arith, lower))

      entries : (level_at levels i).entries ≡ (level_at others i).entries
      entries = ext_get_or no_entry (level_at levels i).entries (level_at others i).entries (a_is.sized ∙ ap size_of (a_level ∙ sym b_level) ∙ sym b_is.sized) (λ r inside.
          let few = a_is.low in
          let within : r < size_of i = omega (arith, inside, a_is.sized, ap size_of a_level) in
          let (p, is, stones, ranked) = board_reached i r (omega (arith, few, a_level)) within in
          let at_a = entry_of-at levels p i r stones ranked in
          let at_b = entry_of-at others p i r stones ranked in
          let p_low : sum p < length levels = omega (arith, stones, low) in
          let p_lower : sum p < length others = omega (arith, stones, lower) in
          let same = same_of p is p_low p_lower in
          sym at_a ∙ entry_same (entry_of levels p) (entry_of others p) same.0 (plan_same p is p_low p_lower (mine p is stones) (theirs p is stones)) same.1 ∙ at_b)

pub shelves_same : (levels others : List Image) → IsShelf levels → IsShelf others → length levels ≡ length others → HasLowestPlans levels → HasLowestPlans others → levels ≡ others
shelves_same levels others shelf other size mine theirs =
    ext_get_or no_image levels others size
    (λ i low. level_same levels others shelf other i low (omega (arith, low, size)) (λ p is stones. mine p is (omega (arith, stones, low))) (λ p is stones. theirs p is (omega (arith, stones, low, size))))

pub images_same : (shelf : List Image) (image other : Image) → IsShelf shelf → Consistent shelf image → Consistent shelf other → IsPlannedLowest shelf image → IsPlannedLowest shelf other → image ≡ other
images_same shelf image other below first second mine theirs =
    sym (get_or-append_seam shelf image [] no_image)
    ∙ level_same (shelf ++ image ∷ []) (shelf ++ other ∷ []) (IsShelf-push shelf image below first) (IsShelf-push shelf other below second) (length shelf)
    (omega (arith, length-append shelf (image ∷ []))) (omega (arith, length-append shelf (other ∷ []))) mine theirs
    ∙ get_or-append_seam shelf other [] no_image

-- ---- a level with the lowest plans on top of others

pub lowest_push : (shelf : List Image) (image : Image) → HasLowestPlans shelf → IsPlannedLowest shelf image → HasLowestPlans (shelf ++ image ∷ [])
lowest_push shelf image below top p is low = elim (cases_lt (sum p) (length shelf)) [
  | inl under ↦
      let old = table_of shelf in
      let new = table_of (shelf ++ image ∷ []) in
      let same_entry : (q : List ℕ) → sum q < length shelf → entry_of shelf q ≡ entry_of (shelf ++ image ∷ []) q = λ q few. sym (entry_of-append shelf (image ∷ []) q few) in
      let same : (q : List ℕ) → sum q < length shelf → SameOf old new q = λ q few. (ap (λ e. e.value) (same_entry q few), ap (λ e. e.dist) (same_entry q few)) in
      subst (IsLowest new p) (ap (λ e. e.plan) (same_entry p under))
      (lowest_local old new p (entry_of shelf p).plan (same p under)
      (λ x c q move. let kept = sum-from_IsMove p x c q is.pits move in same q (omega (arith, kept, under)))
      (below p is under))
  | inr high ↦ top p is (omega (arith, low, high, length-append shelf (image ∷ [])))
]
