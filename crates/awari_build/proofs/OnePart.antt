-- One part that has a whole level, from step to step.
use Rattle.std.proofs.Common.{◌≡◌, ℕ, ◌≤◌, List, [], ◌∷◌, ℤ, All, length, sym, ap, subst, ◌∙◌, arith}
use Rattle.std.proofs.lemmas.List.Elements.{All-cons, All-nil}
use Rattle.awari_block.specs.Part.{Part, IsClosed, IsTallied}
use Rattle.awari_block.specs.declared.notes.Note.{Note}
use Rattle.awari_heard.specs.Heard.{HearsOwn}
use Rattle.awari_heard.specs.Level.{AreHeard, AreTold, AreWhole, DistancesFit, IsWhole}
use Rattle.awari_rank.specs.Rank.{size_of}
use Rattle.awari_owner.specs.Outboxes.{Outboxes}
use Rattle.awari_owner.specs.Sound.{KeepsOwn, KeepsTally, SpreadsFirst}
use Rattle.awari_table.specs.Images.{table_of}
use Rattle.awari_table.specs.declared.images.Image.{Image}
use Rattle.awari_build.specs.OnePart.{IsAlone, IsSoundPart, StaysSound}
use Rattle.awari_build.specs.Settled.{AreSettled}

-- where a gain or a distance is opened the notes are the same
pub sound_opened : (value : List ℕ → ℤ) (old new : Part) → KeepsTally old new → KeepsOwn old new → IsSoundPart value old → IsSoundPart value new
sound_opened value old new opened hears s = record { notes = s.notes; tallied = opened value s.notes s.tallied; own = hears s.notes s.own }

-- where a board is spread its notes join them
pub sound_spread : (value : List ℕ → ℤ) (old new : Part) (o o' : Outboxes) → SpreadsFirst old new o o' → IsSoundPart value old → IsSoundPart value new
sound_spread value old new o o' first s = record { notes = _; tallied = first.spreads.told value s.notes s.own s.tallied; own = first.spreads.hears s.notes s.own }

-- the part keeps its block, and the outboxes are of the same owners
pub alone_still : (old new : Part) (o o' : Outboxes) → new.level ≡ old.level → new.start ≡ old.start → length new.cells ≡ length old.cells
    → o'.owner ≡ o.owner → length o'.queues ≡ length o.queues → IsAlone old o → IsAlone new o'
alone_still old new o o' level start size owner owners is = record {
  whole = record { start = start ∙ is.whole.start; all = size ∙ is.whole.all ∙ ap size_of (sym level) };
  first = owner ∙ is.first;
  one = owners ∙ is.one;
}

-- two steps
pub stays_both : (a b c : Part) → StaysSound a b → StaysSound b c → StaysSound a c
stays_both a b c s t = record { level = t.level ∙ s.level; gain = t.gain ∙ s.gain; sound = λ value sound. t.sound value (s.sound value sound) }

module _
    (whole : (part : Part) → IsWhole part → AreWhole part.level (part ∷ []))
    (heard : (value : List ℕ → ℤ) (part : Part) (notes : List Note) → IsTallied value part notes → HearsOwn part notes → AreHeard value (part ∷ [])) where
  -- its distances fit
  pub one_fits : (value : List ℕ → ℤ) (part : Part) → ((value : List ℕ → ℤ) (parts : List Part) → AreHeard value parts → AreTold value parts)
      → ((value : List ℕ → ℤ) (level : ℕ) (parts : List Part) → AreWhole level parts → level ≤ 24 → AreTold value parts → All DistancesFit parts)
      → part.level ≤ 24 → IsWhole part → IsSoundPart value part → DistancesFit part
  one_fits value part told fits low is s =
      fits value part.level (part ∷ []) (whole part is) low (told value (part ∷ []) (heard value part s.notes s.tallied s.own)) 0 part (omega arith)

  -- once it is closed the level is settled
  pub one_settled : (shelf : List Image) (part : Part) (parts : List Part) → parts ≡ part ∷ [] → part.level ≡ length shelf → IsWhole part → IsClosed part
      → IsSoundPart (table_of shelf).value part → AreSettled shelf parts
  one_settled shelf part parts same level is closed s = subst (AreSettled shelf) (sym same) (record {
    whole = subst (λ n. AreWhole n (part ∷ [])) level (whole part is);
    closed = All-cons IsClosed part [] closed (All-nil IsClosed);
    heard = heard (table_of shelf).value part s.notes s.tallied s.own;
  })
