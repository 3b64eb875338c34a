-- Owners before and after the phase of a gain.
use Rattle.std.proofs.Common.{◌≡◌, ℕ, ◌+◌, ◌<◌, List, ℤ, length, get_or, ap, sym, subst, ◌∙◌, arith}
use Rattle.awari_phase.specs.declared.owners.Owner.{Owner}
use Rattle.awari_phase.specs.Owners.{AllGrown, AreAt, AreFinished, AreIdle}

-- at rest, with this gain open in each part
abbrev pub AreOpened : (List ℕ → ℤ) → ℕ → ℕ → List Owner → Type 0
AreOpened value n gain owners = AreFinished value n owners × ((i : ℕ) (d : Owner) → i < length owners → (get_or owners i d).part.gain ≡ gain)

-- the next gain is open
pub next_open : (value : List ℕ → ℤ) (n gain : ℕ) (items now new : List Owner) → now ≡ items → length new ≡ length now
    → ((v : List ℕ → ℤ) (m : ℕ) → AreFinished v m now → AreFinished v m new)
    → ((i : ℕ) (d : Owner) → i < length now → (get_or new i d).part.gain + 1 ≡ (get_or now i d).part.gain)
    → AreAt value n (gain + 1) items → AreOpened value n gain new
next_open value n gain items now new is long finished less at = (
  finished value n (subst (AreFinished value n) (sym is) at.finished),
  λ i d low.
      let same = ap length is in
      let one = less i d (omega (arith, low, long)) in
      let was = subst (λ l. (get_or l i d).part.gain ≡ gain + 1) (sym is) (at.gain i d (omega (arith, low, long, same))) in
      omega (arith, one, was),
)

-- and closed
pub phase_ends : (value : List ℕ → ℤ) (n gain : ℕ) (opened passed all : List Owner) → passed ≡ opened → AreOpened value n gain opened → AllGrown passed all → AreIdle all
    → ((v : List ℕ → ℤ) (m : ℕ) → AreFinished v m passed → AreFinished v m all) → AreAt value n gain all
phase_ends value n gain opened passed all same at grown idle finished = record {
  finished = finished value n (subst (AreFinished value n) (sym same) at.0);
  idle = idle;
  gain = λ i d low.
      let many = grown.many in
      let long = ap length same in
      (grown.each i d (omega (arith, low, many))).gain ∙ subst (λ l. (get_or l i d).part.gain ≡ gain) (sym same) (at.1 i d (omega (arith, low, many, long)));
}
