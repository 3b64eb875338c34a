-- Something holds of each part and the one that takes its place.
use Rattle.std.proofs.Common.{◌≡◌, ◌≢◌, ℕ, ◌+◌, ◌<◌, ◌≤◌, ◌==◌, Bool, true, false, List, length, get_or, set, refl, sym, subst, subst₂, ◌∙◌, arith, eqb-true, length-set, get_or-set_same, get_or-set_other}
use Rattle.std.proofs.lemmas.Bool.Decides.{nat_tests}
use Rattle.std.proofs.lemmas.List.{get_or_default}
use Rattle.awari_block.specs.Part.{Part}
use Rattle.awari_heard.specs.Level.{no_part, part_at}
use Rattle.awari_block.specs.Each.{EachTo}
use Rattle.awari_block.proofs.ListParts.{each_at}

-- of those below k, and the others are as they were
pub record EachBelow (P : Part → Part → Type 0) (old now : List Part) (k : ℕ) : Type 0 where
  pub blocks : length now ≡ length old
  pub each : (i : ℕ) → i < k → i < length old → P (part_at old i) (part_at now i)
  pub others : (i : ℕ) → k ≤ i → part_at now i ≡ part_at old i

pub EachBelow-none : (P : Part → Part → Type 0) (old : List Part) → EachBelow P old old 0
EachBelow-none P old = record { blocks = refl; each = λ i less. absurd (omega (arith, less)); others = λ i h. refl }

pub EachBelow-more : (P : Part → Part → Type 0) (old now : List Part) (k : ℕ) (new : Part) → EachBelow P old now k → k < length now → P (part_at now k) new → EachBelow P old (set now k new) (k + 1)
EachBelow-more P old now k new below inside made = record {
  blocks = length-set now k new ∙ below.blocks;
  each = λ i less few. by i less few (i == k) refl;
  others = λ i h. there i (omega (arith, h)) ∙ below.others i (omega (arith, h));
}
  where
    differ : (a b : ℕ) → (a == b) ≡ false → a ≢ b
    differ a b e = grind (arith, nat_tests)

    here : part_at (set now k new) k ≡ new
    here = rw get_or-set_same refl

    there : (i : ℕ) → i ≢ k → part_at (set now k new) i ≡ part_at now i
    there i ne = rw get_or-set_other refl

    same : part_at now k ≡ part_at old k
    same = below.others k (omega arith)

    by : (i : ℕ) → i < k + 1 → i < length old → (b : Bool) → (i == k) ≡ b → P (part_at old i) (part_at (set now k new) i)
    by i less few true e = subst (λ n. P (part_at old n) (part_at (set now k new) n)) (sym (eqb-true i k e)) (subst₂ P same (sym here) made)
    by i less few false e = let ne = differ i k e in subst (P (part_at old i)) (sym (there i ne)) (below.each i (omega (arith, less, ne)) few)

-- the same, by what was read
pub EachBelow-next : (P : Part → Part → Type 0) (old now : List Part) (k : ℕ) (d new : Part) → EachBelow P old now k → k < length now → P (get_or now k d) new → EachBelow P old (set now k new) (k + 1)
EachBelow-next P old now k d new below inside made = EachBelow-more P old now k new below inside (subst (λ (p : Part). P p new) (get_or_default now k d no_part inside) made)

pub EachBelow-end : (P : Part → Part → Type 0) (old now : List Part) (k : ℕ) → EachBelow P old now k → length now ≤ k → EachTo P old now
EachBelow-end P old now k below end = each_at P no_part old now below.blocks (λ i few. below.each i (let many = below.blocks in omega (arith, few, many, end)) few)

-- ---- two things that hold of each

abbrev pub Both : (Part → Part → Type 0) → (Part → Part → Type 0) → Part → Part → Type 0
Both P Q old new = P old new × Q old new

pub each_first : (P Q : Part → Part → Type 0) (old new : List Part) → EachTo (Both P Q) old new → EachTo P old new
each_first P Q old new all = record { many = all.many; each = λ i d few. (all.each i d few).0 }

pub each_second : (P Q : Part → Part → Type 0) (old new : List Part) → EachTo (Both P Q) old new → EachTo Q old new
each_second P Q old new all = record { many = all.many; each = λ i d few. (all.each i d few).1 }
