-- A part hears notes that its cells had not heard.
use Rattle.std.proofs.Common.{◌≡◌, ℕ, ◌/◌, ◌%◌, ◌≤◌, ◌==◌, Bool, true, not, ◌&&◌, List, [], ◌∷◌, ◌++◌, drop, slice_range, sum, refl, sym, subst, ◌∙◌, arith}
use Rattle.std.proofs.lemmas.List.{map-append}
use Rattle.std.proofs.lemmas.List.Folds.{drop_split}
use Rattle.awari_board.specs.Rules.{IsBoard, captured, next_board}
use Rattle.awari_board.specs.Tests.{is_legal}
use Rattle.awari_rank.specs.Rank.{rank_of}
use Rattle.awari_block.specs.Boards.{HearsNote, stake_of}
use Rattle.awari_block.specs.Notes.{IsQuietMove, is_heard_at}
use Rattle.awari_block.specs.Part.{Part, InBlock, IsTallied, SameLevel, notes_for, stored_at}
use Rattle.awari_block.specs.Tally.{has_pit}
use Rattle.awari_block.specs.declared.notes.Kind.{Kind}
use Rattle.awari_block.specs.declared.notes.Note.{Note}
use Rattle.awari_block.specs.declared.stakes.Stake.{Stake}
use Rattle.awari_block.proofs.Legality.{counted_quiet}
use Rattle.awari_heard.specs.Heard.{with_heard}
use Rattle.awari_heard.proofs.Coming.{heard_both}
use Rattle.awari_heard.proofs.Taking.{IsTakeable, added_heard}
use Rattle.awari_segments.specs.Segments.{IsCodeFor, note_by, notes_by}
use Rattle.awari_segments.specs.Tellings.{HearsSurely}

pub surely_none : (part : Part) → HearsSurely [] part part
surely_none part value notes tallied = tallied

pub surely_then : (a b : List Note) (old now new : Part) → HearsSurely a old now → HearsSurely b now new → HearsSurely (a ++ b) old new
surely_then a b old now new one two value notes tallied = subst (IsTallied value new) (sym (heard_both a b notes)) (two value (with_heard a notes) (one value notes tallied))

-- one note, of a move that the cell has left
pub surely_one : (old new : Part) (kind : Kind) (code : ℕ) → 1 ≤ old.gain → IsCodeFor old code → has_pit (stored_at old (code / 8)).left (code % 8) ≡ true → SameLevel old new
    → HearsNote old new (code / 8) (code % 8) kind → HearsSurely (notes_by (stake_of old) kind (code ∷ [])) old new
surely_one old new kind code one is silent same hears value notes tallied = added_heard value notes old new (note_by (stake_of old) kind code) one due silent same hears tallied
  where
    first : (a b : Bool) → (a && not b) ≡ true → a ≡ true
    first a b e = grind arith

    quiet : (p : List ℕ) → IsBoard p → sum p ≡ old.level → rank_of p ≡ code / 8 → (q : List ℕ) × IsQuietMove p (code % 8) q
    quiet p board stones at =
        let told = tallied p board stones (subst (InBlock old) (sym at) is.0) in
        let left = sym (told.left (code % 8) is.1) ∙ subst (λ r. has_pit (stored_at old r).left (code % 8) ≡ true) (sym at) silent in
        (next_board p (code % 8), counted_quiet p (code % 8) (first (is_legal p (code % 8) && (captured p (code % 8) == 0)) (is_heard_at (notes_for (rank_of p) notes) (code % 8)) left))

    due : IsTakeable old (note_by (stake_of old) kind code)
    due = record { gain = refl; dist = refl; held = is.0; own = is.1; quiet = quiet }

-- and then those behind it
pub surely_more : (stake : Stake) (now new last : Part) (kind : Kind) (code : ℕ) (codes : List ℕ) → stake_of now ≡ stake → HearsSurely (notes_by (stake_of now) kind (code ∷ [])) now new
    → HearsSurely (notes_by stake kind codes) new last → HearsSurely (notes_by stake kind (code ∷ codes)) now last
surely_more stake now new last kind code codes at one rest =
    surely_then (note_by stake kind code ∷ []) (notes_by stake kind codes) now new last (subst (λ s. HearsSurely (notes_by s kind (code ∷ [])) now new) at one) rest

-- a batch, and then those behind it
pub surely_batch : (stake : Stake) (now next new : Part) (kind : Kind) (codes : List ℕ) (start end : ℕ) → stake_of now ≡ stake → start ≤ end → HearsSurely (notes_by (stake_of now) kind (slice_range codes start end)) now next
    → HearsSurely (notes_by stake kind (drop end codes)) next new → HearsSurely (notes_by stake kind (drop start codes)) now new
surely_batch stake now next new kind codes start end at order one rest =
    subst (λ (cs : List ℕ). HearsSurely (notes_by stake kind cs) now new) (sym (drop_split codes start end order))
    (subst (λ (ms : List Note). HearsSurely ms now new) (sym (map-append (note_by stake kind) (slice_range codes start end) (drop end codes)))
    (surely_then (notes_by stake kind (slice_range codes start end)) (notes_by stake kind (drop end codes)) now next new (subst (λ s. HearsSurely (notes_by s kind (slice_range codes start end)) now next) at one) rest))
