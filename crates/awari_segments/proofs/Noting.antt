-- The notes of a list of codes.
use Rattle.std.proofs.Common.{◌≡◌, ◌⊎◌, ℕ, ◌/◌, ◌%◌, ◌≤◌, inl, inr, List, [], ◌∷◌, sum, pos, neg_ℤ, ◌<ℤ◌, refl, ap, arith, sym, ◌∙◌}
use Rattle.std.proofs.lemmas.Int.{ints}
use Rattle.awari_rank.specs.Rank.{rank_of}
use Rattle.awari_block.specs.Boards.{value_of_kind}
use Rattle.awari_block.specs.Notes.{Has, IsNoteOf, IsQuietMove, gain_by}
use Rattle.awari_block.specs.declared.notes.Kind.{Kind}
use Rattle.awari_block.specs.declared.notes.Kind.TheVariants.{Won, Lost}
use Rattle.awari_block.specs.declared.notes.Note.{Note}
use Rattle.awari_block.specs.declared.stakes.Stake.{Stake}
use Rattle.awari_segments.specs.Segments.{note_by, notes_by}

pub noted_in : (stake : Stake) (kind : Kind) (codes : List ℕ) (c : ℕ) → Has codes c → Has (notes_by stake kind codes) (note_by stake kind c)
noted_in stake kind [] c h = elim h [ ]
noted_in stake kind (d ∷ codes) c (inl same) = inl (ap (note_by stake kind) same)
noted_in stake kind (d ∷ codes) c (inr rest) = inr (noted_in stake kind codes c rest)

pub noted_from : (stake : Stake) (kind : Kind) (codes : List ℕ) (m : Note) → Has (notes_by stake kind codes) m → (c : ℕ) × Has codes c × (m ≡ note_by stake kind c)
noted_from stake kind [] m has = absurd has
noted_from stake kind (d ∷ codes) m (inl same) = (d, inl refl, same)
noted_from stake kind (d ∷ codes) m (inr rest) = let found = noted_from stake kind codes m rest in (found.0, inr found.1, found.2)

-- the note of a code
pub note_is : (stake at : Stake) (kind : Kind) (p q : List ℕ) (x c : ℕ) → at.level ≡ stake.level → at.gain ≡ stake.gain → at.wave ≡ stake.wave → 1 ≤ stake.gain → sum p ≡ stake.level
    → c / 8 ≡ rank_of p → c % 8 ≡ x → IsQuietMove p x q → IsNoteOf q (value_of_kind kind stake.gain) stake.wave p x (note_by at kind c)
note_is stake at kind p q x c level gain wave one stones rank pit quiet = record {
  quiet = quiet;
  level = level ∙ sym stones;
  target = rank;
  pit = pit;
  kind = kinds kind;
  gain = ap (gain_by kind) gain ∙ gains kind;
  same_dist = wave;
}
  where
    kinds : (k : Kind) → ((k ≡ Won) × (pos 0 <ℤ value_of_kind k stake.gain)) ⊎ ((k ≡ Lost) × (value_of_kind k stake.gain <ℤ pos 0))
    kinds Won = inl (refl, omega (arith, ints, one))
    kinds Lost = inr (refl, omega (arith, ints, one))

    gains : (k : Kind) → gain_by k stake.gain ≡ neg_ℤ (value_of_kind k stake.gain)
    gains Won = refl
    gains Lost = omega (arith, ints)
