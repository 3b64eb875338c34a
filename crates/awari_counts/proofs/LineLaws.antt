-- Lines of numbers of boards, one after the other.
use Rattle.std.proofs.Common.{◌≡◌, ℕ, ◌+◌, ◌==◌, ◌<◌, Bool, true, false, cond, List, [], ◌∷◌, ◌++◌, Option, sym, ◌∙◌, ap, subst, append_assoc, refl, arith}
use Rattle.std.proofs.KnownBytes.{Appends-nil, Appends-trans}
use Rattle.std.proofs.lemmas.Bool.Decides.{nat_tests}
use Rattle.std.proofs.lemmas.List.{append-nil}
use Rattle.std.specs.Io.KnownBytes.{Appends}
use Rattle.std.specs.List.{flat_map, range_with_len}
use Rattle.awari_members.specs.Members.{Named, share_line}
use Rattle.awari_members.specs.declared.forms.Form.{Form}
use Rattle.awari_queries.specs.declared.columns.Column.{Column}
use Rattle.awari_facts.proofs.PartLaws.{lines-more, lines-next}
use Rattle.awari_counts.specs.Ranges.{number_at}
use Rattle.awari_facts.specs.Numbers.{column_member}
use Rattle.awari_counts.specs.Rows.{place_line, row_lines, share_text}

-- a part of no lines
pub lines-skip : (f : ℕ → List ℕ) (n : ℕ) (before now : Option (List ℕ)) → Appends before now (flat_map f (range_with_len 0 n)) → f n ≡ [] → Appends before now (flat_map f (range_with_len 0 (n + 1)))
lines-skip f n before now so_far none = subst (Appends before now) (sym (lines-more f n ∙ ap (λ t. flat_map f (range_with_len 0 n) ++ t) none ∙ append-nil _)) so_far

-- the line of no boards, and that of some
pub share-none : (shown : ℕ → List ℕ) (boards count : ℕ) → boards ≡ count → boards ≡ 0 → share_line shown count ≡ []
share-none shown boards count is none = ap (share_line shown) (sym is ∙ none)

pub share-some : (shown : ℕ → List ℕ) (boards count : ℕ) → boards ≡ count → 0 < boards → share_line shown count ≡ shown boards ++ 10 ∷ []
share-some shown boards count is some = ap (share_line shown) (sym is) ∙ go (boards == 0) (grind (arith, nat_tests))
  where
    go : (b : Bool) → b ≡ false → cond b [] (shown boards ++ 10 ∷ []) ≡ shown boards ++ 10 ∷ []
    go true e = cc
    go false e = refl

-- one part more, below what stands above them
pub lines-below : (head : List ℕ) (f : ℕ → List ℕ) (n : ℕ) (before now after : Option (List ℕ)) → Appends before now (head ++ flat_map f (range_with_len 0 n)) → Appends now after (f n)
    → Appends before after (head ++ flat_map f (range_with_len 0 (n + 1)))
lines-below head f n before now after so_far next =
    subst (Appends before after) (append_assoc head (flat_map f (range_with_len 0 n)) (f n) ∙ ap (λ t. head ++ t) (sym (lines-more f n))) (Appends-trans before now after _ _ so_far next)

pub lines-above : (head : List ℕ) (f : ℕ → List ℕ) (before now : Option (List ℕ)) → Appends before now head → Appends before now (head ++ flat_map f (range_with_len 0 0))
lines-above head f before now above = subst (Appends before now) (sym (append-nil head)) above

-- ---- a row

pub row-none : (form : Form) (head : List Named) (column : Column) (count : ℕ → ℕ) (before : Option (List ℕ)) → Appends before before (row_lines form head column count 0)
unfolding row_lines
row-none form head column count before = Appends-nil before

-- one place more: no board has its number
pub row-skip : (form : Form) (head : List Named) (column : Column) (count : ℕ → ℕ) (n boards : ℕ) (before now : Option (List ℕ)) → Appends before now (row_lines form head column count n)
    → boards ≡ count n → boards ≡ 0 → Appends before now (row_lines form head column count (n + 1))
unfolding row_lines
row-skip form head column count n boards before now so_far is none =
    lines-skip (place_line form head column count) n before now so_far (share-none (share_text form head (column_member column (number_at column n))) boards (count n) is none)

-- or some have it, and their line
pub row-more : (form : Form) (head : List Named) (column : Column) (count : ℕ → ℕ) (n boards : ℕ) (share : Named) (before now after : Option (List ℕ)) → Appends before now (row_lines form head column count n)
    → boards ≡ count n → 0 < boards → share ≡ column_member column (number_at column n) → Appends now after (share_text form head share boards ++ 10 ∷ []) → Appends before after (row_lines form head column count (n + 1))
unfolding row_lines
row-more form head column count n boards share before now after so_far is some own line =
    lines-next (place_line form head column count) n before now after so_far
    (subst (Appends now after) (ap (λ m. share_text form head m boards ++ 10 ∷ []) own ∙ sym (share-some (share_text form head (column_member column (number_at column n))) boards (count n) is some)) line)
