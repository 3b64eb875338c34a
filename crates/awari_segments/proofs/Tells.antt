-- What a member told is what its spread boards say, before and after each step.
use Rattle.std.proofs.Common.{◌≡◌, ◌⊎◌, ℕ, ◌/◌, ◌<◌, ◌≤◌, inl, inr, List, [], ◌∷◌, ◌++◌, length, sum, ℤ, Some, refl, sym, subst, subst₂, ◌∙◌, arith}
use Rattle.std.proofs.lemmas.List.{get_or_default}
use Rattle.awari_board.specs.Rules.{IsBoard}
use Rattle.awari_rank.specs.Rank.{rank_of}
use Rattle.awari_block.specs.Boards.{value_of_kind}
use Rattle.awari_block.specs.Each.{EachTo}
use Rattle.awari_block.specs.Notes.{Has, IsNoteOf, IsQuietMove}
use Rattle.awari_block.specs.Part.{Part, InBlock, settled_at}
use Rattle.awari_block.specs.declared.notes.Kind.{Kind}
use Rattle.awari_block.specs.declared.notes.Kind.TheVariants.{Lost, Won}
use Rattle.awari_block.specs.declared.notes.Note.{Note}
use Rattle.awari_block.specs.declared.stakes.Stake.{Stake}
use Rattle.awari_block.proofs.NoteLists.{Has-append_cases, Has-append_left, Has-append_right}
use Rattle.awari_heard.specs.Heard.{IsSeenAs, IsSpread}
use Rattle.awari_heard.specs.Level.{no_part, part_at}
use Rattle.awari_heard.proofs.SpreadBoards.{IsInjective}
use Rattle.awari_scan.specs.Found.{code_of}
use Rattle.awari_segments.specs.Lists.{list_at}
use Rattle.awari_segments.specs.Segments.{FindsFor, note_by, notes_by}
use Rattle.awari_segments.specs.declared.rows.Row.{Row}
use Rattle.awari_segments.proofs.Noting.{note_is, noted_from, noted_in}
use Rattle.awari_segments.proofs.Sources.{Keeps, codes_in, in_codes, source_all, source_from}
use Rattle.awari_segments.specs.Taken.{IsTaken, IsTakenOf, TakesFrom}
use Rattle.awari_segments.specs.Tellings.{IsToldBy, Tell, TellSpread, Telling, Tells, notes_to, telling_of}

-- ---- lists of tellings

pub tell_before : (ts : List Telling) (t : Telling) (k : ℕ) (m : Note) → Tell ts k m → Tell (ts ++ t ∷ []) k m
tell_before [] t k m tell = elim tell [ ]
tell_before (s ∷ ts) t k m (inl here) = inl here
tell_before (s ∷ ts) t k m (inr later) = inr (tell_before ts t k m later)

pub tell_last : (ts : List Telling) (t : Telling) (k : ℕ) (m : Note) → Has (notes_to k t) m → Tell (ts ++ t ∷ []) k m
tell_last [] t k m has = inl has
tell_last (s ∷ ts) t k m has = inr (tell_last ts t k m has)

pub tell_either : (ts : List Telling) (t : Telling) (k : ℕ) (m : Note) → Tell (ts ++ t ∷ []) k m → Tell ts k m ⊎ Has (notes_to k t) m
tell_either [] t k m (inl here) = inr here
tell_either [] t k m (inr none) = elim none [ ]
tell_either (s ∷ ts) t k m (inl here) = inl (inl here)
tell_either (s ∷ ts) t k m (inr later) = elim (tell_either ts t k m later) [ inl was ↦ inl (inr was) | inr is ↦ inr is ]

-- ---- the same boards are spread

told_still : (level : ℕ) (old new : List Part) (m : Note) → EachTo IsSeenAs old new → IsToldBy level old m → IsToldBy level new m
told_still level old new m same told =
    let many = same.many in
    let seen = same.each told.at no_part told.inside in
    record {
      at = told.at;
      q = told.q;
      p = told.p;
      x = told.x;
      v = told.v;
      d = told.d;
      inside = let low = told.inside in omega (arith, low, many);
      held = let a = told.held.0 in let b = told.held.1 in (omega (arith, a, seen.start), omega (arith, b, seen.start, seen.len));
      spread = seen.stays (rank_of told.q) told.v told.d told.held told.spread;
      board = told.board;
      stones = told.stones;
      note = told.note;
    }

pub spread_seen : (level span : ℕ) (old new : List Part) (ts : List Telling) → EachTo IsSeenAs old new → TellSpread level span old ts → TellSpread level span new ts
spread_seen level span old new ts same tells = record {
  true_notes = λ k m tell. told_still level old new m same (tells.true_notes k m tell);
  all_notes = λ i p q x v d low is stones inside quiet spread.
      let many = same.many in
      let few : i < length old = omega (arith, low, many) in
      let seen = same.each i no_part few in
      let inside_old : InBlock (part_at old i) (rank_of q) = let a = inside.0 in let b = inside.1 in (omega (arith, a, seen.start), omega (arith, b, seen.start, seen.len)) in
      tells.all_notes i p q x v d few is stones inside_old quiet (seen.before (rank_of q) v d inside_old spread);
}

-- ---- boards are taken, and their notes told

module _ (stake : Stake) (span level : ℕ) (old new : List Part) (lost won : List ℕ) (row : Row) (injective : IsInjective) (keeps : Keeps) (boards : (p q : List ℕ) (x : ℕ) → IsBoard p → IsQuietMove p x q → IsBoard q) (at_level : stake.level ≡ level)
    (one : 1 ≤ stake.gain) (takes : TakesFrom stake old new lost won) (find_lost : FindsFor level span lost (list_at row.lost)) (find_won : FindsFor level span won (list_at row.won)) where
  -- those of one kind
  module _ (kind : Kind) (ranks : List ℕ) (lists : List (List ℕ)) (found : FindsFor level span ranks (list_at lists)) (taken : (r : ℕ) → Has ranks r → (i : ℕ) × (i < length old) × IsTaken stake (part_at new i) kind r) where
    kind_true : (k : ℕ) (m : Note) → Has (notes_by stake kind (list_at lists k)) m → IsToldBy level new m
    kind_true k m has =
        let c = noted_from stake kind (list_at lists k) m has in
        let y = in_codes span k found.0 c.0 (subst (λ (l : List ℕ). Has l c.0) (found.2 k) c.1) in
        let from = source_from level ranks found.0 y.0 keeps found.1 y.1 in
        let at = taken (rank_of from.q) from.listed in
        let many = takes.blocks in
        let own = from.quiet.legal.own in
        let code = y.2 in
        record {
          at = at.0;
          q = from.q;
          p = y.0.0;
          x = y.0.1;
          v = value_of_kind kind stake.gain;
          d = stake.wave;
          inside = let low = at.1 in omega (arith, low, many);
          held = at.2.0;
          spread = (at.2.1, at.2.2);
          board = from.from;
          stones = from.sum_from;
          note = subst (IsNoteOf from.q (value_of_kind kind stake.gain) stake.wave y.0.0 y.0.1) (sym c.2)
              (note_is stake stake kind y.0.0 from.q y.0.1 c.0 refl refl refl one (from.sum_from ∙ sym at_level) (omega (arith, code, own)) (omega (arith, code, own)) from.quiet);
        }

    kind_all : (p q : List ℕ) (x : ℕ) → IsBoard p → sum p ≡ level → IsQuietMove p x q → Has ranks (rank_of q)
        → (m : Note) × Has (notes_by stake kind (list_at lists (rank_of p / span))) m × IsNoteOf q (value_of_kind kind stake.gain) stake.wave p x m
    kind_all p q x board stones quiet listed =
        let own = quiet.legal.own in
        let keep = keeps p q x board quiet in
        let has = source_all level ranks found.0 p q x injective found.1 listed (boards p q x board quiet) (omega (arith, keep, stones)) board quiet in
        let code : ℕ = code_of (p, x) in (
          note_by stake kind code,
          noted_in stake kind (list_at lists (rank_of p / span)) code (subst (λ (l : List ℕ). Has l code) (sym (found.2 (rank_of p / span))) (codes_in span (rank_of p / span) found.0 (p, x) has refl)),
          note_is stake stake kind p q x code refl refl refl one (stones ∙ sym at_level) (omega (arith, own)) (omega (arith, own)) quiet,
        )

    newly : (i : ℕ) (p q : List ℕ) (x : ℕ) (v : ℤ) (d : ℕ) → IsBoard p → sum p ≡ level → IsQuietMove p x q → IsTakenOf stake (part_at new i) kind ranks (rank_of q) → settled_at (part_at new i) (rank_of q) ≡ Some (v, d)
        → (m : Note) × Has (notes_by stake kind (list_at lists (rank_of p / span))) m × IsNoteOf q v d p x m
    newly i p q x v d is stones quiet there settled =
        let told = kind_all p q x is stones quiet there.0 in
        let same : (value_of_kind kind stake.gain, stake.wave) ≡ (v, d) = some_same (sym there.1.1 ∙ settled) in
        (told.0, told.1, subst (λ (y : ℤ × ℕ). IsNoteOf q y.0 y.1 p x told.0) same told.2)
      where
        some_same : {a b : ℤ × ℕ} → Some a ≡ Some b → a ≡ b
        some_same e = cc

  abbrev lost_to : ℕ → List Note
  lost_to k = notes_by stake Lost (list_at row.lost k)

  abbrev won_to : ℕ → List Note
  won_to k = notes_by stake Won (list_at row.won k)

  -- so a member tells whose row has the notes of what it took
  pub tells_of : Tells level span (telling_of stake row) old new
  tells_of = record {
    same = record {
      many = takes.blocks;
      each = λ i d low.
          let many = takes.blocks in
          subst₂ (λ (p q : Part). q ≡ record p { fresh = q.fresh }) (sym (get_or_default old i d no_part low)) (sym (get_or_default new i d no_part (omega (arith, low, many)))) (takes.same i low);
    };
    stay = takes.stay;
    true_notes = λ k m has. elim (Has-append_cases (lost_to k) (won_to k) m has) [
      | inl in_lost ↦ kind_true Lost lost row.lost find_lost takes.of_lost k m in_lost
      | inr in_won ↦ kind_true Won won row.won find_won takes.of_won k m in_won
    ];
    all_notes = λ i p q x v d low is stones inside quiet spread.
        let many = takes.blocks in
        let few : i < length old = omega (arith, low, many) in
        let settled = subst (λ (p : Part). settled_at p (rank_of q) ≡ Some (v, d)) (takes.same i few) spread.0 in
        elim (takes.all i (rank_of q) few spread.1) [
          | inl before ↦ inl (settled, before)
          | inr (inl is_lost) ↦ (let told = newly Lost lost row.lost find_lost takes.of_lost i p q x v d is stones quiet is_lost spread.0 in
              inr (told.0, Has-append_left (lost_to (rank_of p / span)) (won_to (rank_of p / span)) told.0 told.1, told.2))
          | inr (inr is_won) ↦ (let told = newly Won won row.won find_won takes.of_won i p q x v d is stones quiet is_won spread.0 in
              inr (told.0, Has-append_right (lost_to (rank_of p / span)) (won_to (rank_of p / span)) told.0 told.1, told.2))
        ];
  }

-- ---- what is told then is again what the spread boards say

-- what was spread is so still
pub taken_still : (level span : ℕ) (t : Telling) (old new : List Part) → Tells level span t old new → (i r : ℕ) (v : ℤ) (d : ℕ) → i < length old → IsSpread (part_at old i) r v d → IsSpread (part_at new i) r v d
taken_still level span t old new tells i r v d low spread = (
  subst (λ (p : Part). settled_at p r ≡ Some (v, d)) (sym (tells.same.each i no_part low)) spread.0,
  tells.stay i r low spread.1,
)

pub tell_more : (level span : ℕ) (t : Telling) (old new : List Part) (ts : List Telling) → Tells level span t old new → TellSpread level span old ts → TellSpread level span new (ts ++ t ∷ [])
tell_more level span t old new ts tells was = record {
  true_notes = λ k m tell. elim (tell_either ts t k m tell) [
    | inl before ↦ still m (was.true_notes k m before)
    | inr now ↦ tells.true_notes k m now
  ];
  all_notes = λ i p q x v d low is stones inside quiet spread.
      let many = tells.same.many in
      let few : i < length old = omega (arith, low, many) in
      elim (tells.all_notes i p q x v d low is stones inside quiet spread) [
        | inl before ↦ (let told = was.all_notes i p q x v d few is stones (subst (λ (p : Part). InBlock p (rank_of q)) (tells.same.each i no_part few) inside) quiet before in
            (told.0, tell_before ts t (rank_of p / span) told.0 told.1, told.2))
        | inr now ↦ (now.0, tell_last ts t (rank_of p / span) now.0 now.1, now.2)
      ];
}
  where
    still : (m : Note) → IsToldBy level old m → IsToldBy level new m
    still m told =
        let many = tells.same.many in
        record {
          at = told.at;
          q = told.q;
          p = told.p;
          x = told.x;
          v = told.v;
          d = told.d;
          inside = let low = told.inside in omega (arith, low, many);
          held = subst (λ (p : Part). InBlock p (rank_of told.q)) (sym (tells.same.each told.at no_part told.inside)) told.held;
          spread = taken_still level span t old new tells told.at (rank_of told.q) told.v told.d told.inside told.spread;
          board = told.board;
          stones = told.stones;
          note = told.note;
        }
