-- The older V6 at what is seen of a board is that of the table; and at most one fault is due by the older rules.
use Rattle.std.proofs.Common.{◌≡◌, ◌↔◌, ◌⊎◌, ℕ, ◌<◌, List, Bool, IsTrue, Option, Some, MatchOption, IfSome, All, pos, ◌<ℤ◌, inl, inr, sym, ◌∙◌, arith}
use Rattle.std.proofs.lemmas.Bool.{cases_lt}
use Rattle.awari_board.specs.Rules.{IsMove}
use Rattle.awari_table.specs.Certificate.{Table, IsRightBy}
use Rattle.awari_table.specs.declared.images.Image.{Image}
use Rattle.awari_theory.specs.Older.{ConsistentOld, DistancesFall}
use Rattle.awari_verify.specs.FirstFailure.{BreaksFirst}
use Rattle.awari_verify.specs.declared.rules.Rule.{Rule}
use Rattle.awari_verify.specs.declared.rules.Seen.{Seen}
use Rattle.awari_verify.specs.Sights.{Sees, IsNearer}
use Rattle.awari_verify.specs.Older.{IsDueOld, KeepsFalling}
use Rattle.awari_verify.specs.declared.verdicts.VerifyFault.{VerifyFault}
use Rattle.awari_verify.proofs.FaultLemmas.{inconsistent_from_fault, judged_by, one_due}
use Rattle.awari_verify.proofs.SightLemmas.{none_from_open, open_from_none, moves_any, nearer-says, winning_any}

losing_any : (t : Table) (p : List ℕ) (s : Seen) → Sees t p s → All (λ o. IfSome o (λ m. IsNearer m s.entry.dist)) s.moves ↔ ((x : ℕ) (q : List ℕ) → IsMove p x 0 q → t.dist q < s.entry.dist)
losing_any t p s h =
    let e = moves_any t p (λ m. IsNearer m s.entry.dist) (λ x c q. (0 < c) ⊎ (t.dist q < s.entry.dist)) (nearer-says t p s.entry.dist) s.moves h.six h.moves in (
      λ k x q move. elim (e.0 k x 0 q move) [ inl up ↦ absurd (omega arith) | inr down ↦ down ],
      λ k. e.1 (λ x c q move. elim (cases_lt 0 c) [ inl up ↦ inl up | inr none ↦ let zero_c : c ≡ 0 = omega arith in inr (k x q (rw zero_c at move)) ]),
    )

falling_from : (t : Table) (p : List ℕ) (s : Seen) → Sees t p s → KeepsFalling s → DistancesFall t p
falling_from t p s h k = record {
  even = rw (← h.value, ← h.dist) k.0;
  uneven = rw (← h.value, ← h.dist) (λ more uneven. k.1 (none_from_open p s.end h.at_end more) uneven);
  winning = rw (← h.value, ← h.plan, ← h.dist) (λ up. (winning_any t p s h).0 (k.2 up));
  losing = rw (← h.value, ← h.dist) (λ down. (losing_any t p s h).0 (k.3 down));
}

falling_to : (t : Table) (p : List ℕ) (s : Seen) → Sees t p s → DistancesFall t p → KeepsFalling s
falling_to t p s h k =
    let winning : pos 0 <ℤ s.entry.value → (x c : ℕ) (q : List ℕ) → s.entry.plan ≡ Some x → IsMove p x c q → (0 < c) ⊎ (t.dist q < s.entry.dist) = rw (h.value, h.plan, h.dist) k.winning in
    let losing : s.entry.value <ℤ pos 0 → (x : ℕ) (q : List ℕ) → IsMove p x 0 q → t.dist q < s.entry.dist = rw (h.value, h.dist) k.losing in (
      rw (h.value, h.dist) k.even,
      λ none uneven. rw h.dist (k.uneven (open_from_none p s.end h.at_end none) (rw (← h.value) uneven)),
      λ up. (winning_any t p s h).1 (winning up),
      λ down. (losing_any t p s h).1 (losing down),
    )

pub falling-iff : (t : Table) (p : List ℕ) (s : Seen) → Sees t p s → KeepsFalling s ↔ DistancesFall t p
falling-iff t p s h = (falling_from t p s h, falling_to t p s h)

pub falls_by : (t : Table) (p : List ℕ) (s : Seen) (test : Bool) (broken : Option Rule) → Sees t p s → IsTrue test ↔ KeepsFalling s
    → MatchOption broken (IsRightBy (λ u q. IsTrue test) t p) (BreaksFirst (λ u q. IsTrue test) t p) → MatchOption broken (IsRightBy DistancesFall t p) (BreaksFirst DistancesFall t p)
falls_by t p s test broken h told =
    let same = falling-iff t p s h in judged_by DistancesFall t p test broken (λ kept. same.0 (told.0 kept), λ falls. told.1 (same.1 falls))

pub one_old_due : (shelf : List Image) (image : Image) (fault other : VerifyFault) → IsDueOld shelf image fault → IsDueOld shelf image other → fault ≡ other
one_old_due shelf image fault other (inl a) (inl b) = a.1 ∙ sym b.1
one_old_due shelf image fault other (inl a) (inr b) = absurd (omega (arith, a.0, b.0))
one_old_due shelf image fault other (inr a) (inl b) = absurd (omega (arith, a.0, b.0))
one_old_due shelf image fault other (inr a) (inr b) = one_due DistancesFall shelf image fault other a.1 b.1

pub inconsistent_from_old_fault : (shelf : List Image) (image : Image) (fault : VerifyFault) → IsDueOld shelf image fault → ConsistentOld shelf image → ⊥
inconsistent_from_old_fault shelf image fault (inl due) c = omega (arith, due.0, c.0)
inconsistent_from_old_fault shelf image fault (inr due) c = inconsistent_from_fault DistancesFall shelf image fault due.1 c.1
