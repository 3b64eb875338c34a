-- What sweeps do, ring by ring and sweep by sweep.
use Rattle.std.proofs.Common.{◌≡◌, ℕ, ◌+◌, ◌<◌, ◌≤◌, List, length, Some, ap, sym, subst, ◌∙◌, inl, inr, arith, length-append}
use Rattle.std.proofs.lemmas.Bool.{cases_eq}
use mathlib.Core.List.{IsPrefix}
use Rattle.awari_lines.specs.declared.ends.Ends.{Ends}
use Rattle.awari_lines.specs.Rings.{IsOther, sent_to, received_from, received_on, waiting_from, waiting_on, free_to}
use Rattle.awari_block.specs.Part.{Part, IsLeastDue, unspread}
use Rattle.awari_phase.specs.declared.owners.Owner.{Owner}
use Rattle.awari_owner.specs.Outboxes.{queue_to}
use Rattle.awari_phase.specs.Owners.{HasSent, HasSpread, HasTaken, Kept, Notes, Swept}
use Rattle.awari_phase.specs.Steps.{SendsAt, TakesAt, TakesNothing}
use Rattle.awari_phase.proofs.Keeping.{IsOther-on, kept_trans}

-- ---- batches that were taken

prefix_long : (xs ys : List Notes) → IsPrefix xs ys → length xs ≤ length ys
prefix_long xs ys p = let long = length-append xs p.0 in let same = ap length p.1 in omega (arith, long, same)

taken_after : (a s t : Owner) (j : ℕ) → Kept a s → IsOther a.ends j → HasTaken s t j → HasTaken a t j
taken_after a s t j kept other h =
    elim h [
      | inl none ↦ inl none
      | inr more ↦ inr (let long = prefix_long (received_from a.ends j) (received_from s.ends j) (kept.received j other) in omega (arith, long, more))
    ]

taken_still : (a s t : Owner) (j : ℕ) → received_from t.ends j ≡ received_from s.ends j → waiting_from t.ends j ≡ waiting_from s.ends j → HasTaken a s j → HasTaken a t j
taken_still a s t j received waiting h =
    elim h [
      | inl none ↦ inl (waiting ∙ none)
      | inr more ↦ inr (let same = ap length received in omega (arith, same, more))
    ]

pub taken_more : (a s t : Owner) (p : ℕ) → Kept a s → TakesAt s t p → ((j : ℕ) → j < p → IsOther a.ends j → HasTaken a s j) → (j : ℕ) → j < p + 1 → IsOther a.ends j → HasTaken a t j
taken_more a s t p kept step before j low other =
    let there = IsOther-on a.ends s.ends j kept.pairs other in
    elim (cases_eq j p) [
      | inl at ↦ taken_after a s t j kept other (subst (λ (k : ℕ). IsOther s.ends k → HasTaken s t k) (sym at) step.took there)
      | inr apart ↦
          let same = step.others j apart there.0 in
          taken_still a s t j (ap received_on same) (ap waiting_on same) (before j (omega (arith, low, apart)) other)
    ]

-- ---- batches that were sent

sent_long : (a s : Owner) (j : ℕ) → Kept a s → IsOther a.ends j → length (sent_to a.ends j) ≤ length (sent_to s.ends j)
sent_long a s j kept other =
    let gone = kept.sent j other in
    let long = length-append (sent_to a.ends j) gone.0 in
    let same = ap length gone.1 in
    omega (arith, long, same)

sent_after : (a s t : Owner) (j : ℕ) → Kept a s → IsOther a.ends j → HasSent s t j → HasSent a t j
sent_after a s t j kept other h =
    elim h [
      | inl none ↦ inl none
      | inr rest ↦ inr (elim rest [
        | inl full ↦ inl full
        | inr more ↦ inr (let long = sent_long a s j kept other in omega (arith, long, more))
      ])
    ]

sent_still : (a s t : Owner) (j : ℕ) → sent_to t.ends j ≡ sent_to s.ends j → free_to t.ends j ≡ free_to s.ends j → queue_to t.outboxes j ≡ queue_to s.outboxes j → HasSent a s j → HasSent a t j
sent_still a s t j sent free queue h =
    elim h [
      | inl none ↦ inl (queue ∙ none)
      | inr rest ↦ inr (elim rest [
        | inl full ↦ inl (free ∙ full)
        | inr more ↦ inr (let same = ap length sent in omega (arith, same, more))
      ])
    ]

pub sent_more : (a s t : Owner) (p : ℕ) → Kept a s → SendsAt s t p → ((j : ℕ) → j < p → IsOther a.ends j → HasSent a s j) → (j : ℕ) → j < p + 1 → IsOther a.ends j → HasSent a t j
sent_more a s t p kept step before j low other =
    let there = IsOther-on a.ends s.ends j kept.pairs other in
    elim (cases_eq j p) [
      | inl at ↦ sent_after a s t j kept other (subst (λ (k : ℕ). IsOther s.ends k → HasSent s t k) (sym at) step.sent there)
      | inr apart ↦
          let pair = step.pairs j there apart in
          sent_still a s t j pair.0 pair.1 (step.queues j apart) (before j (omega (arith, low, apart)) other)
    ]

pub nothing_more : (a s t : Owner) → Kept a s → TakesNothing a s → TakesNothing s t → TakesNothing a t
nothing_more a s t kept one more j other =
    let x = one j other in
    let y = more j (IsOther-on a.ends s.ends j kept.pairs other) in
    (y.0 ∙ x.0, y.1 ∙ x.1)

-- ---- sweeps

-- a took, and was b; b spread, and was c; c sent, and was d
pub swept_of : (a b c d : Owner) → Kept a b → ((j : ℕ) → IsOther a.ends j → HasTaken a b j) → Kept b c → c.ends ≡ b.ends → HasSpread b c
    → d.part ≡ c.part → TakesNothing c d → ((j : ℕ) → IsOther c.ends j → HasSent c d j) → Swept a d
swept_of a b c d taking took spreading ends spread part received sent = record {
  took = λ j other.
      (let same = received j (IsOther-on a.ends c.ends j kept.pairs other) in
      taken_still a c d j same.0 same.1 (taken_still a b c j (ap (λ (e : Ends Notes). received_from e j) ends) (ap (λ (e : Ends Notes). waiting_from e j) ends) (took j other)));
  spread = λ due.
      (let more = spread (subst (λ (p : Part). IsLeastDue p (Some p.wave)) part due) in
      let same = ap unspread part in
      let left = taking.unspread in
      omega (arith, more, same, left));
  sent = λ j other. sent_after a c d j kept other (sent j (IsOther-on a.ends c.ends j kept.pairs other));
}
  where
    kept : Kept a c
    kept = kept_trans a b c taking spreading

pub swept_then : (a b c : Owner) → Kept a b → Swept b c → Swept a c
swept_then a b c kept swept = record {
  took = λ j other. taken_after a b c j kept other (swept.took j (IsOther-on a.ends b.ends j kept.pairs other));
  spread = λ due. (let more = swept.spread due in let left = kept.unspread in omega (arith, more, left));
  sent = λ j other. sent_after a b c j kept other (swept.sent j (IsOther-on a.ends b.ends j kept.pairs other));
}
