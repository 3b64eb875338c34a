-- Notes that come in, one after the other: what a part then heard, and why none of them was heard before.
use Rattle.std.proofs.Common.{◌≡◌, ℕ, ◌<◌, ◌≤◌, ◌==◌, ◌⊎◌, ◌||◌, inl, inr, Bool, true, false, not, cond, List, [], ◌∷◌, ◌++◌, refl, sym, ap, subst, ◌∙◌, eqb-true}
use Rattle.awari_rank.specs.Rank.{rank_of}
use Rattle.awari_block.specs.Notes.{IsQuietMove, Has, is_heard_at}
use Rattle.awari_block.specs.Tally.{has_pit}
use Rattle.awari_block.specs.Boards.{HearsNote}
use Rattle.awari_block.specs.Part.{Part, InBlock, IsTallied, SameLevel, notes_for, stored_at}
use Rattle.awari_block.specs.declared.notes.Note.{Note}
use Rattle.awari_block.proofs.BlockLemmas.{eqb_self}
use Rattle.awari_block.proofs.NoteLists.{had_before, has_more, Has-append_cases, Has-append_right}
use Rattle.awari_heard.specs.Heard.{AreOfOtherMoves, AreUnheard, HearsNotes, IsUnheard, with_heard}
use Rattle.awari_heard.proofs.PlannedTallies.{unheard_told}
use Rattle.awari_heard.proofs.Taking.{IsTakeable, added_heard}
use Rattle.awari_heard.proofs.SpreadBoards.{IsInjective}

-- ---- what was heard

pub heard_both : (a b notes : List Note) → with_heard (a ++ b) notes ≡ with_heard b (with_heard a notes)
heard_both [] b notes = refl
heard_both (m ∷ a) b notes = heard_both a b (m ∷ notes)

-- a note that was there is there still
pub had_still : (more notes : List Note) (m : Note) → Has notes m → Has (with_heard more notes) m
had_still [] notes m has = has
had_still (k ∷ more) notes m has = had_still more (k ∷ notes) m (inr has)

-- and a note was there or came in
pub had_either : (more notes : List Note) (m : Note) → Has (with_heard more notes) m → Has notes m ⊎ Has more m
had_either [] notes m has = inl has
had_either (k ∷ more) notes m has = elim (had_either more (k ∷ notes) m has) [
  | inl (inl here) ↦ inr (inl here)
  | inl (inr before) ↦ inl before
  | inr later ↦ inr (inr later)
]

-- the same of the notes for one board
pub for_still : (more notes : List Note) (r : ℕ) (m : Note) → Has (notes_for r notes) m → Has (notes_for r (with_heard more notes)) m
for_still [] notes r m has = has
for_still (k ∷ more) notes r m has = for_still more (k ∷ notes) r m (has_more r k m notes has)

pub for_either : (more notes : List Note) (r : ℕ) (m : Note) → Has (notes_for r (with_heard more notes)) m → Has (notes_for r notes) m ⊎ (Has more m × (m.target ≡ r))
for_either [] notes r m has = inl has
for_either (k ∷ more) notes r m has = elim (for_either more (k ∷ notes) r m has) [
  | inl before ↦ elim (had_before r k m notes before) [
    | inl old ↦ inl old
    | inr here ↦ inr (inl here.0, ap (λ (n : Note). n.target) here.0 ∙ here.1)
  ]
  | inr later ↦ inr (inr later.0, later.1)
]

pub for_new : (more notes : List Note) (m : Note) → Has more m → Has (notes_for m.target (with_heard more notes)) m
for_new [] notes m has = absurd has
for_new (k ∷ more) notes m (inl same) = for_still more (k ∷ notes) m.target m (subst (λ (n : Note). Has (notes_for m.target (n ∷ notes)) m) same here)
  where
    here : Has (notes_for m.target (m ∷ notes)) m
    here = subst (λ b. Has (cond b (m ∷ notes_for m.target notes) (notes_for m.target notes)) m) (sym (eqb_self m.target)) (inl refl)
for_new (k ∷ more) notes m (inr has) = for_new more (k ∷ notes) m has

-- ---- notes of other moves

-- two notes of a list without equal moves
pub once_apart : (xs ys : List Note) (m k : Note) → AreOfOtherMoves (xs ++ m ∷ ys) → Has xs k → k.target ≡ m.target → k.pit ≡ m.pit → ⊥
once_apart [] ys m k once h target pit = absurd h
once_apart (x ∷ xs) ys m k once (inl e) target pit =
    once.0 m (Has-append_right xs (m ∷ ys) m (inl refl)) (sym target ∙ ap (λ (j : Note). j.target) e) (sym pit ∙ ap (λ (j : Note). j.pit) e)
once_apart (x ∷ xs) ys m k once (inr h) target pit = once_apart xs ys m k once.1 h target pit

-- more notes, of moves that are not among the first
pub once_more : (xs ys : List Note) → AreOfOtherMoves xs → AreOfOtherMoves ys → ((k m : Note) → Has xs k → Has ys m → m.target ≡ k.target → m.pit ≡ k.pit → ⊥) → AreOfOtherMoves (xs ++ ys)
once_more [] ys a b apart = b
once_more (x ∷ xs) ys a b apart = (
  λ k has target pit. elim (Has-append_cases xs ys k has) [ inl before ↦ a.0 k before target pit | inr after ↦ apart x k (inl refl) after target pit ],
  once_more xs ys a.1 b (λ k m h. apart k m (inr h)),
)

-- ---- what was not heard

-- a note of another move leaves it so
unheard_still : (level : ℕ) (notes : List Note) (m k : Note) → IsUnheard level notes k → (k.target ≡ m.target → k.pit ≡ m.pit → ⊥) → IsUnheard level (m ∷ notes) k
unheard_still level notes m k (p, q, board, stones, at, quiet, unheard) apart = (p, q, board, stones, at, quiet, by (m.target == k.target) refl)
  where
    pit : m.target ≡ k.target → (b : Bool) → (m.pit == k.pit) ≡ b → (b || is_heard_at (notes_for k.target notes) k.pit) ≡ false
    pit targets false e = unheard
    pit targets true e = absurd (apart (sym targets) (sym (eqb-true m.pit k.pit e)))

    by : (b : Bool) → (m.target == k.target) ≡ b → is_heard_at (cond b (m ∷ notes_for k.target notes) (notes_for k.target notes)) k.pit ≡ false
    by false e = unheard
    by true e = pit (eqb-true m.target k.target e) (m.pit == k.pit) refl

pub all_unheard : (level : ℕ) (more notes : List Note) → ((m : Note) → Has more m → IsUnheard level notes m) → AreOfOtherMoves more → AreUnheard level more notes
all_unheard level [] notes each apart = tt
all_unheard level (m ∷ more) notes each apart =
    (each m (inl refl), all_unheard level more (m ∷ notes) (λ k has. unheard_still level notes m k (each k (inr has)) (apart.0 k has)) apart.1)

unheard_both : (level : ℕ) (a b notes : List Note) → AreUnheard level (a ++ b) notes → AreUnheard level a notes × AreUnheard level b (with_heard a notes)
unheard_both level [] b notes are = (tt, are)
unheard_both level (m ∷ a) b notes are = let rest = unheard_both level a b (m ∷ notes) are.1 in ((are.0, rest.0), rest.1)

-- ---- a part that hears

pub hears_none : (part : Part) → HearsNotes [] part part
hears_none part value notes none tallied = tallied

-- one note
pub hears_one : (old new : Part) (m : Note) → IsInjective → 1 ≤ old.gain → m.gain ≡ old.gain → m.dist ≡ old.wave → InBlock old m.target → m.pit < 6
    → SameLevel old new → HearsNote old new m.target m.pit m.kind → HearsNotes (m ∷ []) old new
hears_one old new m injective one gain dist held own same hears value notes ((p, q, board, stones, at, quiet, unheard), none) tallied =
    added_heard value notes old new m one due silent same hears tallied
  where
    inside : InBlock old (rank_of p)
    inside = subst (InBlock old) (sym at) held

    silent : has_pit (stored_at old m.target).left m.pit ≡ true
    silent = subst (λ r. has_pit (stored_at old r).left m.pit ≡ true) at
        (unheard_told value _ p (notes_for (rank_of p) notes) old.gain old.wave (tallied p board stones inside) m.pit q quiet
        ∙ ap not (subst (λ r. is_heard_at (notes_for r notes) m.pit ≡ false) (sym at) unheard))

    due : IsTakeable old m
    due = record {
      gain = gain;
      dist = dist;
      held = held;
      own = own;
      quiet = λ b board' stones' at'. subst (λ (r : List ℕ). (s : List ℕ) × IsQuietMove r m.pit s) (injective p b board board' (stones ∙ sym stones') (at ∙ sym at')) (q, quiet);
    }

-- and then others
pub hears_then : (a b : List Note) (old now new : Part) → now.level ≡ old.level → HearsNotes a old now → HearsNotes b now new → HearsNotes (a ++ b) old new
hears_then a b old now new level one two value notes unheard tallied =
    let parts = unheard_both old.level a b notes unheard in
    subst (IsTallied value new) (sym (heard_both a b notes))
    (two value (with_heard a notes) (subst (λ n. AreUnheard n b (with_heard a notes)) (sym level) parts.1) (one value notes parts.0 tallied))
