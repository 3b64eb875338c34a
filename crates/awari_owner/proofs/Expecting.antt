-- Why a note that is on its way is not refused, and what stays while the same boards are spread.
use Rattle.std.proofs.Common.{◌≡◌, ℕ, ◌+◌, ◌-◌, ◌*◌, ◌/◌, ◌<◌, ◌≤◌, inl, inr, Bool, true, false, not, min, List, ◌∷◌, ◌++◌, length, sum, All, ℤ, refl, sym, ap, subst, subst₂, ◌∙◌, arith}
use Rattle.std.proofs.lemmas.Bool.{cases_lt, cases_eq}
use Rattle.std.proofs.lemmas.Nat.{mul-le}
use Rattle.awari_board.specs.Rules.{IsBoard, next_board}
use Rattle.awari_rank.specs.Rank.{rank_of, size_of}
use Rattle.awari_block.specs.Notes.{IsQuietMove, Has, IsNoteOf, is_heard_at}
use Rattle.awari_block.specs.Tally.{has_pit}
use Rattle.awari_block.specs.Blocks.{KeepSettled}
use Rattle.awari_block.specs.Part.{Part, InBlock, Leaves, IsExpected, JoinsFresh, cell_at, stored_at, notes_for}
use Rattle.awari_block.specs.Shares.{first_rank}
use Rattle.awari_heard.proofs.PlannedTallies.{unheard_told}
use Rattle.awari_heard.specs.Heard.{IsSpread, IsSeenAs}
use Rattle.awari_block.specs.declared.notes.Note.{Note}
use Rattle.awari_heard.proofs.SpreadBoards.{IsInjective, spread_stays, spread_before}
use Rattle.awari_owner.specs.Owners.{IsShare, AreSound}
use Rattle.awari_owner.specs.Sound.{CanTake, HoldsNotes, IsInBlockOf, IsOtherOf, IsCurrentNote}
use Rattle.awari_block.proofs.NoteLists.{Has-append_left, Has-append_right, Has-notes_for, heard_note}
use Rattle.awari_heard.proofs.Coming.{once_apart}

-- ---- blocks

first_rank-grows : (boards owners i k : ℕ) → i ≤ k → first_rank boards owners i ≤ first_rank boards owners k
first_rank-grows boards owners i k h = at ((boards + (owners - 1)) / owners)
  where
    at : (s : ℕ) → min (i * s) boards ≤ min (k * s) boards
    at s = let more = mul-le i s k s h (omega arith) in omega (arith, more)

ahead : (n owners i k r : ℕ) (a b : Part) → IsShare n owners i a → IsShare n owners k b → i < k → InBlock a r → InBlock b r → ⊥
ahead n owners i k r a b shares shares' less in_a in_b =
    let more = first_rank-grows (size_of n) owners (i + 1) k (omega (arith, less)) in
    let end = shares.end in let start = shares'.start in
    let high = in_a.1 in let low = in_b.0 in let from = in_a.0 in
    omega (arith, more, end, start, high, low, from)

-- a board is in one block
pub one_block : (n owners i k r : ℕ) (a b : Part) → IsShare n owners i a → IsShare n owners k b → InBlock a r → InBlock b r → i ≡ k
one_block n owners i k r a b shares shares' in_a in_b = elim (cases_lt i k) [
  | inl less ↦ absurd (ahead n owners i k r a b shares shares' less in_a in_b)
  | inr more ↦ elim (cases_eq i k) [
    | inl same ↦ same
    | inr apart ↦ absurd (ahead n owners k i r b a shares' shares (omega (arith, more, apart)) in_b in_a)
  ]
]

pub in_share : (n owners j r : ℕ) (part : Part) → IsShare n owners j part → IsInBlockOf n owners j r → InBlock part r
in_share n owners j r part share inside =
    let start = share.start in let end = share.end in let a = inside.0 in let b = inside.1 in
    (omega (arith, start, a), omega (arith, start, end, a, b))

pub of_share : (n owners j r : ℕ) (part : Part) → IsShare n owners j part → InBlock part r → IsInBlockOf n owners j r
of_share n owners j r part share inside =
    let start = share.start in let end = share.end in let a = inside.0 in let b = inside.1 in
    (omega (arith, start, a), omega (arith, start, end, a, b))

-- ---- parts of which the same boards are spread

pub seen_kept : (old new : Part) → new.level ≡ old.level → new.start ≡ old.start → length new.cells ≡ length old.cells → KeepSettled old.start old.cells new.cells → JoinsFresh old new → IsSeenAs old new
seen_kept old new level start len keeps joins = record {
  level = level;
  start = start;
  len = len;
  stays = λ r v d inside. spread_stays old new start keeps joins r v d inside.0;
  before = λ r v d inside. spread_before old new start keeps joins r v d inside.0;
}

pub inside_new : (old new : Part) (r : ℕ) → IsSeenAs old new → InBlock old r → InBlock new r
inside_new old new r seen inside = let a = inside.0 in let b = inside.1 in let s = seen.start in let l = seen.len in (omega (arith, a, s), omega (arith, b, s, l))

pub inside_old : (old new : Part) (r : ℕ) → IsSeenAs old new → InBlock new r → InBlock old r
inside_old old new r seen inside = let a = inside.0 in let b = inside.1 in let s = seen.start in let l = seen.len in (omega (arith, a, s), omega (arith, b, s, l))

pub leaves_old : (old new : Part) (target pit : ℕ) → IsSeenAs old new → Leaves new target pit → Leaves old target pit
leaves_old old new target pit seen leaves p is stones at =
    let there = leaves p is (stones ∙ sym seen.level) at in
    (there.0, there.1, λ inside. there.2 (inside_new old new (rank_of there.0) seen inside))

pub share_still : (n owners i : ℕ) (old new : Part) → IsSeenAs old new → IsShare n owners i old → IsShare n owners i new
share_still n owners i old new seen share = record {
  level = seen.level ∙ share.level;
  start = seen.start ∙ share.start;
  end = (let end = share.end in let s = seen.start in let l = seen.len in omega (arith, end, s, l));
}

pub timely_still : (old new : Part) (m : Note) → new.level ≡ old.level → new.gain ≡ old.gain → new.wave ≡ old.wave → IsCurrentNote old m → IsCurrentNote new m
timely_still old new m level gain wave timely = record {
  gain = timely.gain ∙ sym gain;
  opened = (let o = timely.opened in omega (arith, o, gain, level));
  dist = timely.dist ∙ sym wave;
  near = timely.near;
}

-- ---- a note that is on its way is expected

module _ (injective : IsInjective) (value : List ℕ → ℤ) (n owners : ℕ) (part : ℕ → Part) (coming taken : ℕ → ℕ → List Note) (sound : AreSound value n owners part coming taken)
    (i j : ℕ) (high : i < owners) (high' : j < owners) (apart : i ≡ j → ⊥) (m : Note) (rest : List Note) (next : coming i j ≡ m ∷ rest) where
  level : (k : ℕ) → k < owners → (part k).level ≡ (part j).level
  level k low = (sound.shares k low).level ∙ sym (sound.shares j high').level

  given_next : HoldsNotes owners (part i) j (taken i j ++ m ∷ rest)
  given_next = subst (λ (l : List Note). HoldsNotes owners (part i) j (taken i j ++ l)) next ((sound.sound i high).given_notes j ((λ e. apart (sym e)), high'))

  note_is : (p : List ℕ) × (q : List ℕ) × (x : ℕ) × (v : ℤ) × (d : ℕ) × IsBoard p × (sum p ≡ (part i).level) × InBlock (part i) (rank_of q) × IsInBlockOf (part i).level owners j (rank_of p)
      × IsSpread (part i) (rank_of q) v d × IsNoteOf q v d p x m
  note_is = given_next.true_notes m (Has-append_right (taken i j) (m ∷ rest) m (inl refl))

  timely : IsCurrentNote (part i) m
  timely = subst (All (IsCurrentNote (part i))) next ((sound.sound i high).opened j ((λ e. apart (sym e)), high')) 0 m (omega arith)

  held : InBlock (part j) (rank_of note_is.0)
  held = in_share n owners j (rank_of note_is.0) (part j) (sound.shares j high') (subst (λ l. IsInBlockOf l owners j (rank_of note_is.0)) (sound.shares i high).level note_is.8)

  note_expected : IsExpected (part j) m
  note_expected =
      let (p, q, x, v, d, is_p, stones, inside, block, spread, note) = note_is in
      record {
        level = note.level ∙ stones ∙ level i high;
        gain = timely.gain ∙ sound.step.gain i high ∙ sym (sound.step.gain j high');
        opened = (let o = timely.opened in let g = sound.step.gain i high in let h = sound.step.gain j high' in let l = level i high in omega (arith, o, g, h, l));
        dist = timely.dist ∙ sound.step.wave i high ∙ sym (sound.step.wave j high');
        held = subst (InBlock (part j)) (sym note.target) held;
        own = (let own = note.quiet.legal.own in let pit = note.pit in omega (arith, own, pit));
        leaves = λ p' is' stones' at.
            let same : p' ≡ p = injective p' p is' is_p (stones' ∙ sym (stones ∙ level i high)) (at ∙ note.target) in (
              q,
              subst₂ (λ (b : List ℕ) (y : ℕ). IsQuietMove b y q) (sym same) (sym note.pit) note.quiet,
              λ here. apart (one_block n owners i j (rank_of q) (part i) (part j) (sound.shares i high) (sound.shares j high') inside here),
            );
      }

  -- a note of this pit was not taken, from no line
  not_taken : (i' : ℕ) → IsOtherOf j owners i' → (k : Note) → Has (taken i' j) k → k.target ≡ m.target → k.pit ≡ m.pit → ⊥
  not_taken i' other k has target pit =
      let (p, q, x, v, d, is_p, stones, inside, block, spread, note) = note_is in
      let (p', q', x', v', d', is_p', stones', in_i, block', spread', note') =
      ((sound.sound i' other.1).given_notes j ((λ e. other.0 (sym e)), high')).true_notes k (Has-append_left (taken i' j) (coming i' j) k has) in
      let boards : p' ≡ p = injective p' p is_p' is_p (stones' ∙ level i' other.1 ∙ sym (stones ∙ level i high)) (sym note'.target ∙ target ∙ note.target) in
      let pits : x' ≡ x = sym note'.pit ∙ pit ∙ note.pit in
      let leads : q' ≡ q = note'.quiet.leaves ∙ ap (λ b. next_board b x') boards ∙ ap (next_board p) pits ∙ sym note.quiet.leaves in
      let owner : i' ≡ i = one_block n owners i' i (rank_of q) (part i') (part i) (sound.shares i' other.1) (sound.shares i high) (subst (λ (b : List ℕ). InBlock (part i') (rank_of b)) leads in_i) inside in
      once_apart (taken i j) rest m k given_next.once (subst (λ a. Has (taken a j) k) owner has) target pit

  note_unheard : has_pit (stored_at (part j) m.target).left m.pit ≡ true
  note_unheard = by (has_pit (stored_at (part j) m.target).left m.pit) refl
    where
      flip : (b : Bool) → not b ≡ false → b ≡ true
      flip b e = grind arith

      by : (b : Bool) → has_pit (stored_at (part j) m.target).left m.pit ≡ b → b ≡ true
      by true e = refl
      by false e =
          let (p, q, x, v, d, is_p, stones, inside, block, spread, note) = note_is in
          let hears = sound.sound j high' in
          let tally = hears.tallied p is_p (stones ∙ level i high) held in
          let heard : is_heard_at (notes_for (rank_of p) hears.heard) m.pit ≡ true =
          flip (is_heard_at (notes_for (rank_of p) hears.heard) m.pit)
          (sym (unheard_told value (cell_at (part j) (rank_of p)) p (notes_for (rank_of p) hears.heard) (part j).gain (part j).wave tally m.pit q (subst (λ y. IsQuietMove p y q) (sym note.pit) note.quiet))
          ∙ subst (λ r. has_pit (stored_at (part j) r).left m.pit ≡ false) note.target e) in
          let found = heard_note (notes_for (rank_of p) hears.heard) m.pit heard in
          let there = Has-notes_for (rank_of p) hears.heard found.0 found.1 in
          let target : found.0.target ≡ m.target = there.1 ∙ sym note.target in
          let leaves : Leaves (part j) found.0.target found.0.pit = subst₂ (λ (a b : ℕ). Leaves (part j) a b) (sym target) (sym found.2) note_expected.leaves in
          let (i', other, has) = hears.heard_taken found.0 there.0 leaves in
          absurd (not_taken i' other found.0 has target found.2)

  pub note_can : CanTake (part j) m
  note_can = record { expected = note_expected; unheard = note_unheard; near = timely.near }
