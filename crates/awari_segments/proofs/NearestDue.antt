-- Which distance is due of segments one after the other.
use Rattle.std.proofs.Common.{◌≡◌, ℕ, ◌+◌, ◌<◌, ◌≤◌, Bool, true, false, ◌==◌, ◌≢◌, eqb-true, IfNone, IfSome, List, [], length, get_or, Option, None, Some, refl, sym, subst, ◌∙◌, arith}
use Rattle.std.proofs.lemmas.Bool.Decides.{nat_tests}
use Rattle.std.proofs.lemmas.List.{get_or_default}
use Rattle.awari_block.specs.Blocks.{times_due, nearer_of}
use Rattle.awari_block.specs.Part.{InBlock, Part, settled_at}
use Rattle.awari_segments.proofs.NearestList.{AreFar, HasAt, IsNearest, Sinks, far_sinks, nearest_both}
use Rattle.awari_heard.specs.Level.{no_part, part_at}
use Rattle.awari_segments.specs.Each.{AreFrom, NoneAreFresh, HasDue}

-- ---- segments one after the other

-- of the first k parts
abbrev pub AreIdleBelow : List Part → ℕ → Type 0
AreIdleBelow parts k = (i : ℕ) → i < k → (part_at parts i).fresh ≡ []

abbrev pub AreFarBelow : List Part → ℕ → ℕ → Type 0
AreFarBelow parts k n = (i : ℕ) → i < k → AreFar (part_at parts i).fresh n

pub record IsDueBelow (parts : List Part) (k : ℕ) (o : Option ℕ) : Type 0 where
  pub nearest : IsNearest (AreIdleBelow parts k) (AreFarBelow parts k) (λ n. HasDue n parts) o

pub IsDueBelow-none : (parts : List Part) → IsDueBelow parts 0 None
IsDueBelow-none parts = record { nearest = record { none = λ i less. absurd (omega arith); least = tt; some = tt } }

below_sinks : (parts : List Part) (k : ℕ) → Sinks (AreIdleBelow parts k) (AreFarBelow parts k)
below_sinks parts k = record {
  free = λ idle n i less. (far_sinks (part_at parts i).fresh).free (idle i less) n;
  nearer = λ m n less far i low. (far_sinks (part_at parts i).fresh).nearer m n less (far i low);
}

-- what some board of one part has, some board of all has
has_in : (from : ℕ) (parts : List Part) (k : ℕ) (part : Part) (o : Option ℕ) → k < length parts → part ≡ part_at parts k → IfSome o (HasAt from part) → IfSome o (λ n. HasDue n parts)
has_in from parts k part None inside read h = tt
has_in from parts k part (Some n) inside read h =
    ((k, h.1.0, h.1.1, inside, subst (λ (p : Part). InBlock p h.1.0) read h.1.2, subst (λ (p : Part). settled_at p h.1.0 ≡ Some (h.1.1, n)) read h.1.3, subst (λ (p : Part). 0 < times_due p.fresh h.1.0) read h.1.4))

-- a part more
pub IsDueBelow-more : (from : ℕ) (parts : List Part) (k : ℕ) (part : Part) (x y o : Option ℕ) → k < length parts → part ≡ part_at parts k → o ≡ nearer_of x y → IsDueBelow parts k x → IfNone y (part.fresh ≡ []) → IfSome y (AreFar part.fresh)
    → IfSome y (HasAt from part) → IsDueBelow parts (k + 1) o
IsDueBelow-more from parts k part x y o inside read is below none least some = record {
  nearest = subst (IsNearest (AreIdleBelow parts (k + 1)) (AreFarBelow parts (k + 1)) (λ n. HasDue n parts)) (sym is)
      (nearest_both (AreIdleBelow parts k) (part.fresh ≡ []) (AreIdleBelow parts (k + 1)) (AreFarBelow parts k) (AreFar part.fresh) (AreFarBelow parts (k + 1)) (λ n. HasDue n parts) x y
      (below_sinks parts k) (far_sinks part.fresh)
      (λ idle none i less. all (λ p. p.fresh ≡ []) idle none i less)
      (λ n far near i less. all (λ p. AreFar p.fresh n) far near i less)
      below.nearest (record { none = none; least = least; some = has_in from parts k part y inside read some }));
}
  where
    differ : (m n : ℕ) → (m == n) ≡ false → m ≢ n
    differ m n e = grind (arith, nat_tests)

    all : (P : Part → Type 0) → ((i : ℕ) → i < k → P (part_at parts i)) → P part → (i : ℕ) → i < k + 1 → P (part_at parts i)
    all P before last i less = by (i == k) refl
      where
        by : (b : Bool) → (i == k) ≡ b → P (part_at parts i)
        by true e = subst (λ n. P (part_at parts n)) (sym (eqb-true i k e)) (subst P read last)
        by false e = let ne = differ i k e in before i (omega (arith, less, ne))

pub IsDueBelow-end : (parts : List Part) (k : ℕ) (o : Option ℕ) → length parts ≤ k → IsDueBelow parts k o → IsNearest (NoneAreFresh parts) (λ n. AreFrom n parts) (λ n. HasDue n parts) o
IsDueBelow-end parts k None end below = record { none = λ i few. below.nearest.none i (omega (arith, few, end)); least = tt; some = tt }
IsDueBelow-end parts k (Some n) end below = record { none = tt; least = λ i few. below.nearest.least i (omega (arith, few, end)); some = below.nearest.some }

pub read_part : (parts : List Part) (k : ℕ) (part : Part) → k < length parts → part ≡ get_or parts k part → part ≡ part_at parts k
read_part parts k part inside read = read ∙ get_or_default parts k part no_part inside
