use Rattle.std.proofs.Common.{◌≡◌, ◌≤◌, ◌<◌, List, ℤ, ℕ, arith, ap, sym, subst, ◌∙◌}
use Rattle.awari_block.specs.Part.{Part, IsTallied, cell_at, notes_for}
use Rattle.awari_block.specs.declared.notes.Note.{Note}
use Rattle.awari_rank.specs.Rank.{rank_of}
use Rattle.awari_heard.proofs.PlannedTallies.{wave_tally}
use Rattle.awari_heard.specs.Heard.{HearsOwn}
use Rattle.awari_owner.proofs.parts.Part.open_wave.Goals as goal

pub invariant_of-self : goal.invariant_of-self
invariant_of-self c =
    record {
      opened = subst (λ (o : Part). 1 ≤ o.gain) (sym c.open_wave.ensures.wave) c.self.invariant.opened;
      fresh = c.open_wave.ensures.fresh;
      index = subst (λ (o : Part). c.self.inside.index ≡ o.level) (sym c.open_wave.ensures.wave) c.self.invariant.index;
    }

waved : (value : List ℕ → ℤ) (notes : List Note) (old : Part) (dist : ℕ) → old.wave < dist → IsTallied value old notes → IsTallied value (record old { wave = dist }) notes
waved value notes old dist farther tallied p is stones inside =
    wave_tally value (cell_at old (rank_of p)) p (notes_for (rank_of p) notes) old.gain old.wave dist (omega (arith, farther)) (tallied p is stones inside)

pub returns : goal.returns
returns c =
    let is = c.open_wave.ensures.wave ∙ ap (λ (o : Part). record o { wave = c.args.dist }) c.self.view_is in
    record {
      wave = is;
      tallied = λ value notes tallied. subst (λ (n : Part). IsTallied value n notes) (sym is) (waved value notes c.args.self.now c.args.dist c.requires.farther tallied);
      own = λ notes own. subst (λ (n : Part). HearsOwn n notes) (sym is) (record { true_notes = own.true_notes; all_notes = own.all_notes });
      fresh = c.open_wave.ensures.fresh;
    }
