-- Boards are taken from the fresh ones of a segment, and of one segment after the other.
use Rattle.std.proofs.Common.{◌≡◌, ◌≢◌, ◌⊎◌, ℕ, ◌<◌, ◌==◌, Bool, true, false, inl, inr, List, ◌++◌, length, map, set, Some, refl, sym, ap, subst, ◌∙◌, arith, eqb-true, length-set, get_or-set_same, get_or-set_other}
use Rattle.std.proofs.lemmas.Bool.Decides.{nat_tests}
use Rattle.awari_block.specs.Blocks.{times_due}
use Rattle.awari_block.specs.Boards.{GivesFresh, stake_of, value_of_kind}
use Rattle.awari_block.specs.Notes.{Has}
use Rattle.awari_block.specs.Part.{Part, AreFresh, InBlock, settled_at}
use Rattle.awari_block.specs.declared.notes.Kind.{Kind}
use Rattle.awari_block.specs.declared.notes.Kind.TheVariants.{Lost, Won}
use Rattle.awari_block.specs.declared.stakes.Stake.{Stake}
use Rattle.awari_heard.specs.Level.{part_at}
use Rattle.awari_block.proofs.BlockLemmas.{times_due-permuted}
use Rattle.awari_block.proofs.NoteLists.{Has-append_cases, Has-append_left, Has-append_right, has_all}
use Rattle.awari_segments.proofs.Given.{given_once, pend_none, pend_zero}
use Rattle.awari_segments.proofs.Sources.{in_or_not}
use Rattle.awari_segments.specs.Taken.{IsTaken, IsTakenOf, TakesFrom, TakesOf}

-- ---- those of one kind

module _ (kind : Kind) (old new : Part) (given : List ℕ) (gives : GivesFresh kind old new given) (fresh : AreFresh old) where
  count : (r : ℕ) → times_due old.fresh r ≡ times_due (map (λ x. (old.wave, x)) given ++ new.fresh) r
  count r = times_due-permuted (map (λ x. (old.wave, x)) given ++ new.fresh) old.fresh r gives.moved

  pub given_taken : (r : ℕ) → Has given r → IsTaken (stake_of old) new kind r
  given_taken r has =
      let at = has_all (λ r. InBlock old r × (settled_at old r ≡ Some (value_of_kind kind old.gain, old.wave))) given gives.valued r has in
      let one = given_once old.wave given new.fresh r has in
      let c = count r in
      let most = fresh.once r in
      subst (λ (p : Part). InBlock p r × (settled_at p r ≡ Some (value_of_kind kind old.gain, old.wave)) × (times_due p.fresh r ≡ 0)) (sym gives.rest) (at.0, at.1, omega (arith, one, c, most))

  pub given_stay : (r : ℕ) → times_due old.fresh r ≡ 0 → times_due new.fresh r ≡ 0
  given_stay r none = (pend_zero old.wave given new.fresh r (sym (count r) ∙ none)).1

  pub given_all : (r : ℕ) → times_due new.fresh r ≡ 0 → (times_due old.fresh r ≡ 0) ⊎ Has given r
  given_all r none = elim (in_or_not given r) [
    | inl has ↦ inr has
    | inr apart ↦ inl (count r ∙ pend_none old.wave given new.fresh r apart none)
  ]

-- ---- those of both kinds

pub takes_both : (stake : Stake) (old mid new : Part) (lost won : List ℕ) → stake_of old ≡ stake → GivesFresh Lost old mid lost → AreFresh old → GivesFresh Won mid new won → AreFresh mid → TakesOf stake old new lost won
takes_both stake old mid new lost won at first fresh second fresh' = record {
  same = second.rest ∙ ap (λ (p : Part). record p { fresh = new.fresh }) first.rest;
  staked = at;
  of_lost = lost_taken;
  of_won = won_taken;
  stay = λ r none. given_stay Won mid new won second fresh' r (given_stay Lost old mid lost first fresh r none);
  all = λ r none. elim (given_all Won mid new won second fresh' r none) [
    | inl was ↦ elim (given_all Lost old mid lost first fresh r was) [ inl before ↦ inl before | inr has ↦ inr (inl (has, lost_taken r has)) ]
    | inr has ↦ inr (inr (has, won_taken r has))
  ];
}
  where
    mid_at : stake_of mid ≡ stake
    mid_at = subst (λ (p : Part). stake_of p ≡ stake_of old) (sym first.rest) refl ∙ at

    lost_taken : (r : ℕ) → Has lost r → IsTaken stake new Lost r
    lost_taken r has =
        let is = given_taken Lost old mid lost first fresh r has in
        subst (λ (p : Part). InBlock p r × (settled_at p r ≡ Some (value_of_kind Lost stake.gain, stake.wave)) × (times_due p.fresh r ≡ 0)) (sym second.rest)
        (is.0, subst (λ s. settled_at mid r ≡ Some (value_of_kind Lost s.gain, s.wave)) at is.1, given_stay Won mid new won second fresh' r is.2)

    won_taken : (r : ℕ) → Has won r → IsTaken stake new Won r
    won_taken r has = let is = given_taken Won mid new won second fresh' r has in (is.0, subst (λ s. settled_at new r ≡ Some (value_of_kind Won s.gain, s.wave)) mid_at is.1, is.2)

-- ---- one segment after the other

module _ (stake : Stake) (old now : List Part) (lost won more more' : List ℕ) (k : ℕ) (new : Part) (few : k < length now) (takes : TakesFrom stake old now lost won) (of : TakesOf stake (part_at now k) new more more') where
  abbrev now' : List Part
  now' = set now k new

  differ : (a b : ℕ) → (a == b) ≡ false → a ≢ b
  differ a b e = grind (arith, nat_tests)

  here : part_at now' k ≡ new
  here = rw get_or-set_same refl

  there : (i : ℕ) → i ≢ k → part_at now' i ≡ part_at now i
  there i ne = rw get_or-set_other refl

  -- what holds of the new part, and of those that stay, holds of each
  each : (P : ℕ → Part → Type 0) → P k new → ((i : ℕ) → i ≢ k → P i (part_at now i)) → (i : ℕ) → P i (part_at now' i)
  each P mine others i = by (i == k) refl
    where
      by : (b : Bool) → (i == k) ≡ b → P i (part_at now' i)
      by true e = subst (λ n. P n (part_at now' n)) (sym (eqb-true i k e)) (subst (P k) (sym here) mine)
      by false e = subst (P i) (sym (there i (differ i k e))) (others i (differ i k e))

  low : k < length old
  low = let b = takes.blocks in omega (arith, few, b)

  -- a board that was taken is taken still
  still : (kind : Kind) (r i : ℕ) → IsTaken stake (part_at now i) kind r → IsTaken stake (part_at now' i) kind r
  still kind r i = each (λ n p. IsTaken stake (part_at now n) kind r → IsTaken stake p kind r)
      (λ is. subst (λ (p : Part). InBlock p r × (settled_at p r ≡ Some (value_of_kind kind stake.gain, stake.wave)) × (times_due p.fresh r ≡ 0)) (sym of.same) (is.0, is.1, of.stay r is.2))
      (λ n ne is. is) i

  mine : (kind : Kind) (r : ℕ) → IsTaken stake new kind r → (i : ℕ) × (i < length old) × IsTaken stake (part_at now' i) kind r
  mine kind r is = (k, low, subst (λ (p : Part). IsTaken stake p kind r) (sym here) is)

  pub takes_more : TakesFrom stake old now' (lost ++ more) (won ++ more')
  takes_more = record {
    blocks = length-set now k new ∙ takes.blocks;
    same = λ i h. each (λ n p. n < length old → p ≡ record (part_at old n) { fresh = p.fresh })
        (λ h. of.same ∙ ap (λ (p : Part). record p { fresh = new.fresh }) (takes.same k h)) (λ n ne h. takes.same n h) i h;
    of_lost = λ r has. elim (Has-append_cases lost more r has) [
      | inl was ↦ let at = takes.of_lost r was in (at.0, at.1, still Lost r at.0 at.2)
      | inr is ↦ mine Lost r (of.of_lost r is)
    ];
    of_won = λ r has. elim (Has-append_cases won more' r has) [
      | inl was ↦ let at = takes.of_won r was in (at.0, at.1, still Won r at.0 at.2)
      | inr is ↦ mine Won r (of.of_won r is)
    ];
    stay = λ i r h none. each (λ n p. n < length old → times_due (part_at old n).fresh r ≡ 0 → times_due p.fresh r ≡ 0) (λ h none. of.stay r (takes.stay k r h none)) (λ n ne h none. takes.stay n r h none) i h none;
    all = λ i r h none. each (λ n p. n < length old → times_due p.fresh r ≡ 0 → (times_due (part_at old n).fresh r ≡ 0) ⊎ (IsTakenOf stake p Lost (lost ++ more) r ⊎ IsTakenOf stake p Won (won ++ more') r))
        (λ h none. elim (of.all r none) [
          | inl before ↦ told (part_at now k) new r (λ kind is. moved kind r is) (takes.all k r h before)
          | inr (inl is) ↦ inr (inl (Has-append_right lost more r is.0, is.1))
          | inr (inr is) ↦ inr (inr (Has-append_right won more' r is.0, is.1))
        ])
        (λ n ne h none. told (part_at now n) (part_at now n) r (λ kind is. is) (takes.all n r h none)) i h none;
  }
    where
      moved : (kind : Kind) (r : ℕ) → IsTaken stake (part_at now k) kind r → IsTaken stake new kind r
      moved kind r is = subst (λ (p : Part). InBlock p r × (settled_at p r ≡ Some (value_of_kind kind stake.gain, stake.wave)) × (times_due p.fresh r ≡ 0)) (sym of.same) (is.0, is.1, of.stay r is.2)

      told : {A : Type 0} (p q : Part) (r : ℕ) → ((kind : Kind) → IsTaken stake p kind r → IsTaken stake q kind r) → A ⊎ (IsTakenOf stake p Lost lost r ⊎ IsTakenOf stake p Won won r)
          → A ⊎ (IsTakenOf stake q Lost (lost ++ more) r ⊎ IsTakenOf stake q Won (won ++ more') r)
      told p q r keeps (inl a) = inl a
      told p q r keeps (inr (inl is)) = inr (inl (Has-append_left lost more r is.0, keeps Lost is.1))
      told p q r keeps (inr (inr is)) = inr (inr (Has-append_left won more' r is.0, keeps Won is.1))
