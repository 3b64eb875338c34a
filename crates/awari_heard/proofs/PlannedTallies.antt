-- Cells with plans: what a note, the opening of a gain and the opening of a distance makes of them.
use Rattle.std.proofs.Common.{◌≡◌, ℕ, ◌+◌, ◌<◌, ◌≤◌, inl, inr, not, ◌&&◌, List, ◌∷◌, sum, ℤ, refl, sym, ap, ◌∙◌, subst, arith}
use Rattle.awari_block.specs.Notes.{IsQuietMove, is_heard_at}
use Rattle.awari_block.specs.Pits.{has_pit, without_pit}
use Rattle.awari_block.specs.declared.notes.Note.{Note}
use Rattle.awari_block.proofs.Legality.{quiet_counted}
use Rattle.awari_heard.proofs.Statuses.{IsNew}
use Rattle.awari_block.specs.Tally.{Cell, IsTally, is_unheard}
use Rattle.awari_block.specs.Steps.{cell_after_note, cell_after_opening}
use Rattle.awari_block.proofs.PitSets.{without_few}
use Rattle.awari_heard.proofs.HearingPlans.{note_known, unheard_but}
use Rattle.awari_heard.proofs.OpeningPlans.{opening_known}

-- a note is added
pub note_tally : (value : List ℕ → ℤ) (cell : Cell) (p : List ℕ) (notes : List Note) (t w : ℕ) (m : Note) → 1 ≤ t → IsNew p notes t w m
    → IsTally value cell p notes t w → IsTally value (cell_after_note cell m.kind m.pit t m.dist) p (m ∷ notes) t w
note_tally value cell p notes t w m one fresh tally = record {
  once = (fresh.unheard, tally.once);
  quiet = λ k has. elim has [ inl e ↦ subst (λ (j : Note). (q : List ℕ) × IsQuietMove p j.pit q) (sym e) fresh.quiet | inr has ↦ tally.quiet k has ];
  opened = λ k has. elim has [ inl e ↦ subst (λ (j : Note). t ≤ j.gain) (sym e) (omega (arith, fresh.gained)) | inr has ↦ tally.opened k has ];
  waved = λ k has. elim has [ inl e ↦ subst (λ (j : Note). j.gain ≡ t → j.dist ≤ w) (sym e) (λ _. omega (arith, fresh.waved)) | inr has ↦ tally.waved k has ];
  few = without_few cell.left m.pit tally.few;
  left = unheard;
  status = note_known value p notes t w m one fresh tally.opened tally.waved (without_pit cell.left m.pit) (without_few cell.left m.pit tally.few) unheard cell.status tally.status;
}
  where
    unheard : (x : ℕ) → x < 6 → has_pit (without_pit cell.left m.pit) x ≡ is_unheard p (m ∷ notes) x
    unheard = unheard_but p notes m cell.left fresh.quiet.1.legal.own tally.left

-- the next gain is opened
pub opening_tally : (value : List ℕ → ℤ) (cell : Cell) (p : List ℕ) (notes : List Note) (t w : ℕ) → 1 ≤ t → IsTally value cell p notes (t + 1) w
    → IsTally value (cell_after_opening cell (sum p) t) p notes t 0
opening_tally value cell p notes t w one tally = record {
  once = tally.once;
  quiet = tally.quiet;
  opened = λ k has. let g = tally.opened k has in omega arith;
  waved = λ k has e. let g = tally.opened k has in absurd (omega arith);
  few = tally.few;
  left = tally.left;
  status = opening_known value p notes t one tally.opened tally.quiet cell.left tally.few tally.left cell.status tally.status;
}

-- a greater distance is opened
pub wave_tally : (value : List ℕ → ℤ) (cell : Cell) (p : List ℕ) (notes : List Note) (t w u : ℕ) → w ≤ u → IsTally value cell p notes t w
    → IsTally value cell p notes t u
wave_tally value cell p notes t w u later tally = record {
  once = tally.once;
  quiet = tally.quiet;
  opened = tally.opened;
  waved = λ k has e. let near = tally.waved k has e in omega arith;
  few = tally.few;
  left = tally.left;
  status = tally.status;
}

-- of a quiet move the cell tells whether a note was heard
pub unheard_told : (value : List ℕ → ℤ) (cell : Cell) (p : List ℕ) (notes : List Note) (t w : ℕ) → IsTally value cell p notes t w
    → (x : ℕ) (q : List ℕ) → IsQuietMove p x q → has_pit cell.left x ≡ not (is_heard_at notes x)
unheard_told value cell p notes t w tally x q quiet =
    tally.left x quiet.legal.own ∙ ap (λ b. b && not (is_heard_at notes x)) (quiet_counted p x 0 q quiet refl)
