-- Boards are taken from the first segments that have them.
use Rattle.std.proofs.Common.{◌≡◌, ◌≢◌, ◌⊎◌, ℕ, ◌+◌, ◌<◌, ◌≤◌, ◌==◌, Bool, true, false, inl, inr, List, [], ◌++◌, length, get_or, set, refl, sym, ap, subst, ◌∙◌, arith, append-nil, eqb-true, length-set, get_or-set_same, get_or-set_other}
use Rattle.std.proofs.lemmas.Bool.{cases_lt}
use Rattle.std.proofs.lemmas.Bool.Decides.{nat_tests}
use Rattle.std.proofs.lemmas.List.{get_or_default}
use Rattle.awari_block.specs.Boards.{GivesFresh, stake_of}
use Rattle.awari_block.specs.Part.{Part, AreFresh}
use Rattle.awari_block.specs.declared.notes.Kind.TheVariants.{Lost, Won}
use Rattle.awari_block.specs.declared.stakes.Stake.{Stake}
use Rattle.awari_heard.specs.Level.{no_part, part_at}
use Rattle.awari_segments.specs.Each.{IsPast, PassesFirst}
use Rattle.awari_segments.proofs.Given.{none_given, passed_by}

module _ (stake : Stake) (old mid new : Part) (lost won : List ℕ) (at : stake_of old ≡ stake) (first : GivesFresh Lost old mid lost) (second : GivesFresh Won mid new won) where
  old_wave : old.wave ≡ stake.wave
  old_wave = ap (λ (s : Stake). s.wave) at

  new_wave : new.wave ≡ stake.wave
  new_wave = ap (λ (p : Part). p.wave) second.rest ∙ ap (λ (p : Part). p.wave) first.rest ∙ old_wave

  pub past_both_kinds : 1 ≤ old.gain → AreFresh mid → IsPast stake.wave new
  past_both_kinds one fresh = subst (λ w. IsPast w new) new_wave (passed_by old mid new lost won one first fresh second)

  -- a segment that has none gives none
  pub past_gives_none : (was_lost was_won lost' won' : List ℕ) → lost' ≡ was_lost ++ lost → won' ≡ was_won ++ won → IsPast stake.wave old → (lost' ≡ was_lost) × (won' ≡ was_won)
  past_gives_none was_lost was_won lost' won' is_lost is_won past =
      let one = none_given Lost old mid lost (subst (λ w. IsPast w old) (sym old_wave) past) first in
      let two = none_given Won mid new won one.1 second in
      (is_lost ∙ ap (λ xs. was_lost ++ xs) one.0 ∙ append-nil was_lost, is_won ∙ ap (λ xs. was_won ++ xs) two.0 ∙ append-nil was_won)

-- The first k parts have no board of the wave left, the others are as they were, and no board was taken if none of the first had one.
pub record PassesBelow (wave : ℕ) (old now : List Part) (lost won : List ℕ) (k : ℕ) : Type 0 where
  pub blocks : length now ≡ length old
  pub passed : (i : ℕ) → i < k → IsPast wave (part_at now i)
  pub others : (i : ℕ) → k ≤ i → part_at now i ≡ part_at old i
  pub none : ((j : ℕ) → j < k → IsPast wave (part_at old j)) → (lost ≡ []) × (won ≡ [])

pub PassesBelow-more : (wave : ℕ) (old now : List Part) (lost won lost' won' : List ℕ) (k : ℕ) (d new : Part) → PassesBelow wave old now lost won k → k < length now → IsPast wave new
    → (IsPast wave (get_or now k d) → (lost' ≡ lost) × (won' ≡ won)) → PassesBelow wave old (set now k new) lost' won' (k + 1)
PassesBelow-more wave old now lost won lost' won' k d new below inside past none = record {
  blocks = length-set now k new ∙ below.blocks;
  passed = λ i less. by i less (i == k) refl;
  others = λ i h. there i (omega (arith, h)) ∙ below.others i (omega (arith, h));
  none = λ before.
      let same = none (subst (IsPast wave) (sym (get_or_default now k d no_part inside ∙ below.others k (omega arith))) (before k (omega arith))) in
      let was = below.none (λ j less. before j (omega (arith, less))) in
      (same.0 ∙ was.0, same.1 ∙ was.1);
}
  where
    differ : (a b : ℕ) → (a == b) ≡ false → a ≢ b
    differ a b e = grind (arith, nat_tests)

    here : part_at (set now k new) k ≡ new
    here = rw get_or-set_same refl

    there : (i : ℕ) → i ≢ k → part_at (set now k new) i ≡ part_at now i
    there i ne = rw get_or-set_other refl

    by : (i : ℕ) → i < k + 1 → (b : Bool) → (i == k) ≡ b → IsPast wave (part_at (set now k new) i)
    by i less true e = subst (λ n. IsPast wave (part_at (set now k new) n)) (sym (eqb-true i k e)) (subst (IsPast wave) (sym here) past)
    by i less false e = let ne = differ i k e in subst (IsPast wave) (sym (there i ne)) (below.passed i (omega (arith, less, ne)))

-- all segments were looked at, or enough boards were taken
pub passes_first : (wave most : ℕ) (old now : List Part) (lost won : List ℕ) (k : ℕ) → PassesBelow wave old now lost won k → (length old ≤ k) ⊎ (most ≤ length lost + length won) → 1 ≤ most → PassesFirst wave old now
passes_first wave most old now lost won k below enough some i few before = elim (cases_lt i k) [
  | inl less ↦ below.passed i less
  | inr above ↦ elim enough [
    | inl end ↦ absurd (omega (arith, few, end, above))
    | inr full ↦ (let none = below.none (λ j less. before j (omega (arith, less, above))) in
        let no_lost = ap length none.0 in
        let no_won = ap length none.1 in
        absurd (omega (arith, some, full, no_lost, no_won)))
  ]
]
