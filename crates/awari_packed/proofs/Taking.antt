-- A capture, pit by pit, on numbers.
use Rattle.std.proofs.Common.{◌≡◌, ℕ, ◌+◌, ◌<◌, ◌≤◌, true, get_or, set, sym, ap, ◌∙◌, subst}
use Rattle.awari_board.specs.Rules.{is_takeable}
use Rattle.awari_board.proofs.Capturing.{IsCapturing, IsCapturing-more}
use Rattle.awari_packed.specs.Packed.{pits_of, IsPackOf}
use Rattle.awari_packed.proofs.Digits.{pits-from_IsPackOf, long-pits_of}

pub IsCapturing-without : (n last end next taken left less stones total : ℕ) → last < 12 → IsCapturing (pits_of n) last end taken (pits_of left) → end ≡ next + 1 → 6 ≤ next → is_takeable (get_or (pits_of left) next 0) ≡ true → stones ≡ get_or (pits_of left) next 0 → IsPackOf less (set (pits_of left) next 0) → total ≡ taken + stones → IsCapturing (pits_of n) last next total (pits_of less)
IsCapturing-without n last end next taken left less stones total here so_far down far takes held is all =
    let more = IsCapturing-more (pits_of n) last end next taken (pits_of left) (long-pits_of n) here so_far down far takes in
    subst (λ t. IsCapturing (pits_of n) last next t (pits_of less)) (sym (all ∙ ap (λ s. taken + s) held))
    (subst (λ l. IsCapturing (pits_of n) last next (taken + get_or (pits_of left) next 0) l) (sym (pits-from_IsPackOf is)) more)
