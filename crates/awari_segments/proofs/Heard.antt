-- How far a board is that a note settles.
use Rattle.std.proofs.Common.{◌≡◌, ℕ, ◌+◌, ◌<◌, ◌&&◌, ◌∷◌, not, refl, subst, subst₂, All, Bool, true, false, List, cond, max, ℤ, pos, Some, sym, ap, ◌∙◌, arith}
use Rattle.std.proofs.lemmas.Bool.{false≢true}
use Rattle.std.proofs.lemmas.List.Elements.{All-cons}
use Rattle.std.proofs.lemmas.List.Sorted.{All-permutation}
use Rattle.awari_block.specs.Blocks.{Due, due_dist}
use Rattle.awari_block.specs.Boards.{HearsNote, Joins, JoinsIf}
use Rattle.awari_block.specs.Tally as tally
use Rattle.awari_block.specs.Tally.{Best}
use Rattle.awari_block.specs.Steps.{after_note, cell_after_note}
use Rattle.awari_block.specs.Cells.{is_settled, status_by, view_of}
use Rattle.awari_block.specs.Part.{settled_by, Part, SameLevel, stored_at}
use Rattle.awari_block.specs.declared.cells.Cell.{Cell}
use Rattle.awari_block.specs.declared.cells.Mark.{Mark}
use Rattle.awari_block.specs.declared.cells.Mark.TheVariants as mark
use Rattle.awari_block.specs.declared.notes.Kind.{Kind}
use Rattle.awari_block.specs.declared.notes.Kind.TheVariants.{Won, Lost}
use Rattle.awari_heard.proofs.SpreadBoards.{settled_value}
use Rattle.awari_segments.specs.Segments.{IsPassed}

far_pair : (a b : ℤ × ℕ) → Some a ≡ Some b → a.1 ≡ b.1
far_pair a b same = let both : a ≡ b = cc in ap (λ (c : ℤ × ℕ). c.1) both

-- of a board that is lost if this is so
won_far : (v s : ℤ) (far pits e d dist : ℕ) (best : Best) (p : ℕ) (b : Bool) → far ≡ max d dist → settled_by (cond b (tally.Settled v (far + 1) pits) (tally.Open best p far)) ≡ Some (s, e) → d < e
won_far v s far pits e d dist best p true at is = let same = far_pair (v, far + 1) (s, e) is in omega (arith, same, at)
won_far v s far pits e d dist best p false at is = absurd (cc)

note_far : (m : Mark) (left : ℕ) (score : ℤ) (plans dist : ℕ) (kind : Kind) (x t d : ℕ) (s : ℤ) (e : ℕ) → is_settled m ≡ false → settled_by (after_note left (status_by m score plans dist) kind x t d) ≡ Some (s, e) → d < e
note_far mark.Settled left score plans dist kind x t d s e unset is = absurd (false≢true (sym unset))
note_far mark.Ended left score plans dist kind x t d s e unset is = absurd (cc)
note_far mark.Quiet left score plans dist Lost x t d s e unset is = let same = far_pair (pos t, d + 1) (s, e) is in omega (arith, same)
note_far mark.Capturing left score plans dist Lost x t d s e unset is = let same = far_pair (pos t, d + 1) (s, e) is in omega (arith, same)
note_far mark.Noted left score plans dist Lost x t d s e unset is = let same = far_pair (pos t, d + 1) (s, e) is in omega (arith, same)
note_far mark.Quiet left score plans dist Won x t d s e unset is = won_far _ s (max d dist) _ e d dist _ _ _ refl is
note_far mark.Capturing left score plans dist Won x t d s e unset is = won_far _ s (max d dist) _ e d dist _ _ _ refl is
note_far mark.Noted left score plans dist Won x t d s e unset is = won_far _ s (max d dist) _ e d dist _ _ _ refl is

pub heard_far : (old new : Cell) (kind : Kind) (x t d : ℕ) → view_of new ≡ cell_after_note (view_of old) kind x t d → is_settled old.mark ≡ false → is_settled new.mark ≡ true → d < new.dist
heard_far old new kind x t d view unset settled =
    note_far old.mark _ old.score old.plans old.dist kind x t d new.score new.dist unset
    (ap settled_by (sym (ap (λ (c : tally.Cell). c.status) view)) ∙ settled_value new settled)

-- the fresh boards stay farther than the open wave
pub joins_passed : (old new : Part) (target pit : ℕ) (kind : Kind) → SameLevel old new → HearsNote old new target pit kind → Joins (stored_at old target) (stored_at new target) target old.fresh new.fresh → IsPassed old → IsPassed new
joins_passed old new target pit kind same hears joins passed =
    subst (λ w. All (λ (f : Due). w < due_dist f) new.fresh) (sym same.wave) (by (is_settled (stored_at new target).mark) (is_settled (stored_at old target).mark) refl refl)
  where
    stay : new.fresh ≡ old.fresh → All (λ (f : Due). old.wave < due_dist f) new.fresh
    stay is = subst (All (λ (f : Due). old.wave < due_dist f)) (sym is) passed

    by : (a b : Bool) → is_settled (stored_at new target).mark ≡ a → is_settled (stored_at old target).mark ≡ b → All (λ (f : Due). old.wave < due_dist f) new.fresh
    by true false ea eb =
        All-permutation (λ (f : Due). old.wave < due_dist f) (((stored_at new target).dist, target) ∷ old.fresh) new.fresh (subst₂ (λ x y. JoinsIf (x && not y) (stored_at new target) target old.fresh new.fresh) ea eb joins)
        (All-cons (λ (f : Due). old.wave < due_dist f) ((stored_at new target).dist, target) old.fresh (heard_far (stored_at old target) (stored_at new target) kind pit old.gain old.wave hears.cell eb ea) passed)
    by true true ea eb = stay (subst₂ (λ x y. JoinsIf (x && not y) (stored_at new target) target old.fresh new.fresh) ea eb joins)
    by false true ea eb = stay (subst₂ (λ x y. JoinsIf (x && not y) (stored_at new target) target old.fresh new.fresh) ea eb joins)
    by false false ea eb = stay (subst₂ (λ x y. JoinsIf (x && not y) (stored_at new target) target old.fresh new.fresh) ea eb joins)

pub same_passed : (old new : Part) → SameLevel old new → new.fresh ≡ old.fresh → IsPassed old → IsPassed new
same_passed old new same is passed = subst₂ (λ w (fs : List Due). All (λ (f : Due). w < due_dist f) fs) (sym same.wave) (sym is) passed
