-- What a member keeps in no step, in two, and in each of its steps.
use Rattle.std.proofs.Common.{◌≡◌, ℕ, ℤ, ◌^◌, ◌∙◌, [], List, refl, sym, subst, subst₂}
use Rattle.awari_block.specs.Each.{EachTo}
use Rattle.awari_block.specs.Part.{Part}
use Rattle.awari_lines.specs.Rings.{IsOther, SameHistory, SamePairs}
use Rattle.awari_lines.specs.declared.ends.Ends.{Ends}
use Rattle.awari_lines.proofs.Grids.{same_pairs}
use Rattle.awari_crew.specs.Members.{IsSound, Kept, Receives, SameTask, SendsAll, parts_of, told_by}
use Rattle.awari_segments.specs.Tellings.{HearsMore, HearsTelling, Telling, Tells, telling_of}
use Rattle.awari_segments.specs.declared.rows.Row.{Row}
use Rattle.awari_crew.specs.declared.letters.Letter.{Letter}
use Rattle.awari_crew.specs.declared.members.Member.{Member}
use Rattle.awari_crew.proofs.Posts.{pairs_then}
use Rattle.awari_crew.proofs.Sounds.{sound_heard, sound_looked, sound_opened, sound_told}

pub kept_none : (a : Member) → Kept a a
kept_none a = record { shelf = refl; level = refl; log = refl; pairs = same_pairs a.ends; sound = λ value sound. sound }

pub kept_then : (a b c : Member) → Kept a b → Kept b c → Kept a c
kept_then a b c p q = record { shelf = q.shelf ∙ p.shelf; level = q.level ∙ p.level; log = q.log ∙ p.log; pairs = pairs_then a.ends b.ends c.ends p.pairs q.pairs; sound = λ value sound. q.sound value (p.sound value sound) }

-- ---- steps

moved : (value : List ℕ → ℤ) (a b : Member) (e : Ends Letter) (new : List Part) → b.level ≡ a.level → b.log ≡ a.log → b.ends ≡ e → parts_of b ≡ new → IsSound value a.level (2 ^ a.log) e new
    → IsSound value b.level (2 ^ b.log) b.ends (parts_of b)
moved value a b e new level log ends parts sound =
    subst (λ l. IsSound value l (2 ^ b.log) b.ends (parts_of b)) (sym level)
    (subst (λ g. IsSound value a.level (2 ^ g) b.ends (parts_of b)) (sym log)
    (subst (λ x. IsSound value a.level (2 ^ a.log) x (parts_of b)) (sym ends) (subst (IsSound value a.level (2 ^ a.log) e) (sym parts) sound)))

pub kept_same : (a b : Member) → SameTask a b → parts_of b ≡ parts_of a → Kept a b
kept_same a b same parts = record {
  shelf = same.shelf;
  level = same.level;
  log = same.log;
  pairs = subst (SamePairs a.ends) (sym same.ends) (same_pairs a.ends);
  sound = λ value sound. moved value a b a.ends (parts_of a) same.level same.log same.ends parts sound;
}

-- a gain or a distance is opened
pub kept_opened : (a b : Member) (new : List Part) → b.shelf ≡ a.shelf → b.level ≡ a.level → b.log ≡ a.log → b.ends ≡ a.ends → parts_of b ≡ new → EachTo (HearsMore []) (parts_of a) new → Kept a b
kept_opened a b new shelf level log ends parts each = record {
  shelf = shelf;
  level = level;
  log = log;
  pairs = subst (SamePairs a.ends) (sym ends) (same_pairs a.ends);
  sound = λ value sound. moved value a b a.ends new level log ends parts (sound_opened value a.level (2 ^ a.log) a.ends (parts_of a) new each sound);
}

-- the rings are looked at
pub kept_looked : (a b : Member) → b.shelf ≡ a.shelf → b.level ≡ a.level → b.log ≡ a.log → SameHistory a.ends b.ends → parts_of b ≡ parts_of a → Kept a b
kept_looked a b shelf level log same parts = record {
  shelf = shelf;
  level = level;
  log = log;
  pairs = same.pairs;
  sound = λ value sound. moved value a b b.ends (parts_of a) level log refl parts (sound_looked value a.level (2 ^ a.log) a.ends b.ends (parts_of a) same sound);
}

-- a letter is heard
pub kept_heard : (a b : Member) (j : ℕ) (letter : Letter) (new : List Part) → b.shelf ≡ a.shelf → b.level ≡ a.level → b.log ≡ a.log → IsOther a.ends j → Receives j letter a.ends b.ends → parts_of b ≡ new
    → EachTo (HearsTelling (2 ^ a.log) (told_by letter)) (parts_of a) new → Kept a b
kept_heard a b j letter new shelf level log is_other receives parts each = record {
  shelf = shelf;
  level = level;
  log = log;
  pairs = receives.pairs;
  sound = λ value sound. moved value a b b.ends new level log refl parts (sound_heard value a.level (2 ^ a.log) a.ends b.ends (parts_of a) new j letter is_other receives each sound);
}

-- boards are taken, and their notes told
told : (a mid b : Member) (t : Telling) (new : List Part) → SameTask a mid → Tells a.level (2 ^ a.log) t (parts_of a) (parts_of mid) → SendsAll t a.ends b.ends → EachTo (HearsTelling (2 ^ a.log) t) (parts_of mid) new
    → b.shelf ≡ a.shelf → b.level ≡ a.level → b.log ≡ a.log → parts_of b ≡ new → Kept a b
told a mid b t new same tells sends each shelf level log parts = record {
  shelf = shelf;
  level = level;
  log = log;
  pairs = sends.pairs;
  sound = λ value sound. moved value a b b.ends new level log refl parts (sound_told value a.level (2 ^ a.log) a.ends b.ends (parts_of a) (parts_of mid) new t tells sends each sound);
}

pub kept_told : (a b c d : Member) (row row' row'' : Row) (new : List Part) → SameTask a b → parts_of b ≡ parts_of a → SameTask b c → Tells b.level (2 ^ b.log) (telling_of b.stake row) (parts_of b) (parts_of c) → row' ≡ row → row'' ≡ row
    → SendsAll (telling_of c.stake row') c.ends d.ends → EachTo (HearsTelling (2 ^ c.log) (telling_of c.stake row'')) (parts_of c) new → d.shelf ≡ c.shelf → d.level ≡ c.level → d.log ≡ c.log → parts_of d ≡ new → Kept a d
kept_told a b c d row row' row'' new first parts second tells same same' sends each shelf level log last =
    kept_then a b d (kept_same a b first parts)
    (told b c d (telling_of b.stake row) new second tells
    (subst₂ (λ s e. SendsAll (telling_of s row) e d.ends) second.stake second.ends (subst (λ r. SendsAll (telling_of c.stake r) c.ends d.ends) same sends))
    (subst₂ (λ s g. EachTo (HearsTelling (2 ^ g) (telling_of s row)) (parts_of c) new) second.stake second.log (subst (λ r. EachTo (HearsTelling (2 ^ c.log) (telling_of c.stake r)) (parts_of c) new) same' each))
    (shelf ∙ second.shelf) (level ∙ second.level) (log ∙ second.log) last)
