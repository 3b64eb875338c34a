-- The notes of moves that stay in the block, once a note came in.
use Rattle.std.proofs.Common.{◌≡◌, ℕ, get_or, ◌+◌, ◌≤◌, ◌==◌, ◌⊎◌, inl, inr, Bool, true, false, cond, List, ◌∷◌, length, sum, ℤ, pos, neg_ℤ, ◌<ℤ◌, ◌≤ℤ◌, Some, ◌&&◌, nat_le, refl, sym, ap, subst, subst₂, ◌∙◌, arith, eqb-true, map}
use Rattle.std.proofs.lemmas.Int.{ints}
use Rattle.std.specs.Prelude.{int_lt}
use Rattle.std.proofs.lemmas.Bool.Decides.{nat_tests}
use Rattle.awari_board.specs.Rules.{IsBoard, next_board}
use Rattle.awari_rank.specs.Rank.{rank_of}
use Rattle.awari_block.specs.Notes.{IsQuietMove, Has, IsNoteOf, gain_by, kind_of}
use Rattle.awari_block.specs.Part.{Part, InBlock, Leaves, JoinsFresh, settled_at, settled_by, notes_for}
use Rattle.awari_block.specs.declared.notes.Kind.TheVariants.{Won, Lost}
use Rattle.awari_block.specs.Cells.{IsEither, is_settled, status_of}
use Rattle.awari_block.specs.Blocks.{is_settled_in, times_due, cell_in, KeepSettled}
use Rattle.awari_scan.specs.Found.{Source}
use Rattle.awari_heard.specs.Heard.{HearsOwn, IsSpread, with_heard}
use Rattle.awari_owner.specs.Spread.{LeavesFresh, is_held, note_to, SpreadsOne, own_notes, AreNotesOf}
use Rattle.awari_block.specs.declared.notes.Kind.{Kind}
use Rattle.awari_block.proofs.BlockLemmas.{one_if}
use Rattle.awari_heard.proofs.SpreadBoards.{IsInjective, kept_status, is_settled_at, spread_stays, spread_before, settled_still}
use Rattle.awari_owner.proofs.Spreading.{AreSources, held_is}
use Rattle.awari_block.specs.declared.notes.Note.{Note}
use Rattle.awari_block.proofs.NoteLists.{has_more, had_before}
use Rattle.awari_heard.proofs.Coming.{for_either, for_new, for_still}
use Rattle.awari_owner.proofs.SpreadNotes.{Has-chosen, Has-filter, note_of, source_of}

-- a note of a move that leaves the block says nothing of the moves that stay
pub hears_take : (old new : Part) (notes : List Note) (m : Note) → HearsOwn old notes → Leaves old m.target m.pit → new.level ≡ old.level
    → ((r : ℕ) → InBlock new r → InBlock old r) → ((r : ℕ) (v : ℤ) (d : ℕ) → InBlock new r → IsSpread new r v d → IsSpread old r v d) → ((r : ℕ) (v : ℤ) (d : ℕ) → InBlock new r → IsSpread old r v d → IsSpread new r v d)
    → HearsOwn new (m ∷ notes)
hears_take old new notes m own leaves level inside back forth = record {
  true_notes = λ p x q is stones in_p in_q quiet k has pit. elim (had_before (rank_of p) m k notes has) [
    | inl before ↦ (let told = own.true_notes p x q is (stones ∙ level) (inside _ in_p) (inside _ in_q) quiet k before pit in (told.0, told.1, forth (rank_of q) told.0 told.1 in_q told.2, told.3))
    | inr new_one ↦ absurd (
        let there = leaves p is (stones ∙ level) (sym new_one.1) in
        let pits : x ≡ m.pit = sym pit ∙ ap (λ (j : Note). j.pit) new_one.0 in
        let same : q ≡ there.0 = quiet.leaves ∙ ap (next_board p) pits ∙ sym there.1.leaves in
        there.2 (subst (λ (b : List ℕ). InBlock old (rank_of b)) same (inside _ in_q)))
  ];
  all_notes = λ p x q v d is stones in_p in_q quiet spread.
      let told = own.all_notes p x q v d is (stones ∙ level) (inside _ in_p) (inside _ in_q) quiet (back (rank_of q) v d in_q spread) in
      (told.0, has_more (rank_of p) m told.0 notes told.1, told.2);
}

-- ---- what is spread stays, and nothing else becomes so, where the newly settled join the fresh

-- a note of a move that leaves the block keeps what is known of the moves that stay
pub hears_kept : (old new : Part) (notes : List Note) (m : Note) → HearsOwn old notes → Leaves old m.target m.pit → new.level ≡ old.level → new.start ≡ old.start → length new.cells ≡ length old.cells
    → KeepSettled old.start old.cells new.cells → JoinsFresh old new → HearsOwn new (m ∷ notes)
hears_kept old new notes m own leaves level start len keeps joins =
    hears_take old new notes m own leaves level inside
    (λ r v d in_r spread. spread_before old new start keeps joins r v d (inside r in_r).0 spread)
    (λ r v d in_r spread. spread_stays old new start keeps joins r v d (inside r in_r).0 spread)
  where
    inside : (r : ℕ) → InBlock new r → InBlock old r
    inside r in_r = let a = in_r.0 in let b = in_r.1 in (omega (arith, start), omega (arith, start, len))

-- the same, where no note came in
pub hears_still : (old new : Part) (notes : List Note) → HearsOwn old notes → new.level ≡ old.level → new.start ≡ old.start → length new.cells ≡ length old.cells
    → KeepSettled old.start old.cells new.cells → JoinsFresh old new → HearsOwn new notes
hears_still old new notes own level start len keeps joins = record {
  true_notes = λ p x q is stones in_p in_q quiet k has pit.
      let told = own.true_notes p x q is (stones ∙ level) (inside _ in_p) (inside _ in_q) quiet k has pit in
      (told.0, told.1, spread_stays old new start keeps joins (rank_of q) told.0 told.1 (inside _ in_q).0 told.2, told.3);
  all_notes = λ p x q v d is stones in_p in_q quiet spread.
      own.all_notes p x q v d is (stones ∙ level) (inside _ in_p) (inside _ in_q) quiet (spread_before old new start keeps joins (rank_of q) v d (inside _ in_q).0 spread);
}
  where
    inside : (r : ℕ) → InBlock new r → InBlock old r
    inside r in_r = let a = in_r.0 in let b = in_r.1 in (omega (arith, start), omega (arith, start, len))

-- ---- a spread

-- Where q is the one board that becomes spread, its notes for the block are all that is new.
pub hears_spread : (old new : Part) (notes : List Note) (q : List ℕ) (sources : List Source) (kind : Kind) (v : ℤ) (d : ℕ) → IsInjective → HearsOwn old notes → AreSources q sources
    → ((p : List ℕ) (x : ℕ) (r : List ℕ) → IsBoard p → IsQuietMove p x r → IsBoard r × (sum r ≡ sum p))
    → IsBoard q → sum q ≡ old.level → new.level ≡ old.level
    → ((r : ℕ) → InBlock new r → InBlock old r) → ((r : ℕ) → InBlock new r → is_held old r ≡ true)
    → ((r : ℕ) (v : ℤ) (d : ℕ) → InBlock new r → IsSpread old r v d → IsSpread new r v d)
    → IsSpread new (rank_of q) v d
    → ((r : ℕ) (u : ℤ) (e : ℕ) → InBlock new r → IsSpread new r u e → IsSpread old r u e ⊎ ((r ≡ rank_of q) × (u ≡ v) × (e ≡ d)))
    → AreNotesOf q v d sources (map (note_to old kind) sources)
    → HearsOwn new (with_heard (own_notes old kind sources) notes)
hears_spread old new notes q sources kind v d injective own are keeps is_q stones level inside held forth spread back gives = record {
  true_notes = λ p x q' is st in_p in_q quiet k has pit. elim (for_either (own_notes old kind sources) notes (rank_of p) k has) [
    | inl before ↦ (let told = own.true_notes p x q' is (st ∙ level) (inside _ in_p) (inside _ in_q) quiet k before pit in (told.0, told.1, forth (rank_of q') told.0 told.1 in_q told.2, told.3))
    | inr later ↦ true_new p x q' is (st ∙ level) quiet k pit (Has-filter own_note (map (note_to old kind) sources) k later.0).0 later.1
  ];
  all_notes = λ p x q' u e is st in_p in_q quiet there. elim (back (rank_of q') u e in_q there) [
    | inl before ↦ (let told = own.all_notes p x q' u e is (st ∙ level) (inside _ in_p) (inside _ in_q) quiet before in (told.0, for_still (own_notes old kind sources) notes (rank_of p) told.0 told.1, told.2))
    | inr here ↦ all_new p x q' u e is (st ∙ level) in_p quiet here
  ];
}
  where
    own_note : Note → Bool
    own_note m = is_held old m.target

    true_new : (p : List ℕ) (x : ℕ) (q' : List ℕ) → IsBoard p → sum p ≡ old.level → IsQuietMove p x q' → (k : Note) → k.pit ≡ x → Has (map (note_to old kind) sources) k → k.target ≡ rank_of p
        → (u : ℤ) × (e : ℕ) × IsSpread new (rank_of q') u e × IsNoteOf q' u e p x k
    true_new p x q' is st quiet k pit has target =
        let (j, low, fits) = source_of q v d sources (map (note_to old kind) sources) gives k has in
        let y : Source = get_or sources j (p, x) in
        let note : IsNoteOf q v d y.0 y.1 k = fits (p, x) in
        let each = are.each j (p, x) low in
        let boards : y.0 ≡ p = injective y.0 p each.0 is (each.1 ∙ stones ∙ sym st) (sym note.target ∙ target) in
        let pits : y.1 ≡ x = sym note.pit ∙ pit in
        let same : q ≡ q' = each.2.leaves ∙ ap (λ b. next_board b y.1) boards ∙ ap (next_board p) pits ∙ sym quiet.leaves in
        let at_p : IsNoteOf q v d p x k = subst₂ (λ (b : List ℕ) (z : ℕ). IsNoteOf q v d b z k) boards pits note in
        (v, d, subst (λ (b : List ℕ). IsSpread new (rank_of b) v d) same spread, subst (λ (b : List ℕ). IsNoteOf b v d p x k) same at_p)

    all_new : (p : List ℕ) (x : ℕ) (q' : List ℕ) (u : ℤ) (e : ℕ) → IsBoard p → sum p ≡ old.level → InBlock new (rank_of p) → IsQuietMove p x q' → (rank_of q' ≡ rank_of q) × (u ≡ v) × (e ≡ d)
        → (m : Note) × Has (notes_for (rank_of p) (with_heard (own_notes old kind sources) notes)) m × IsNoteOf q' u e p x m
    all_new p x q' u e is st in_p quiet here =
        let there = keeps p x q' is quiet in
        let same : q' ≡ q = injective q' q there.0 is_q (there.1 ∙ st ∙ sym stones) here.0 in
        let found = are.every p x is (subst (IsQuietMove p x) same quiet) in
        let (m, has, fits) = note_of q v d sources (map (note_to old kind) sources) gives found.0 (p, x) found.1 in
        let note : IsNoteOf q v d p x m = subst (λ (z : Source). IsNoteOf q v d z.0 z.1 m) found.2 fits in
        let mine = Has-chosen own_note (map (note_to old kind) sources) m has (subst (λ r. is_held old r ≡ true) (sym note.target) (held (rank_of p) in_p)) in (
          m,
          subst (λ r. Has (notes_for r (with_heard (own_notes old kind sources) notes)) m) note.target (for_new (own_notes old kind sources) notes m mine),
          subst₂ (λ (w : ℤ) (f : ℕ). IsNoteOf q' w f p x m) (sym here.1) (sym here.2) (subst (λ (b : List ℕ). IsNoteOf b v d p x m) (sym same) note),
        )

-- ---- what is spread, once the first fresh board is

-- one board more is spread
pub spread_back : (old new : Part) (rank : ℕ) → new.start ≡ old.start → KeepSettled old.start old.cells new.cells → LeavesFresh old new rank → (r : ℕ) (v : ℤ) (d : ℕ) → old.start ≤ r
    → IsSpread new r v d → IsSpread old r v d ⊎ ((rank ≡ r) × (settled_at new r ≡ Some (v, d)))
spread_back old new rank start keeps leaves r v d low spread = by (rank == r) refl
  where
    now : one_if (is_settled_in new.start new.cells r) ≡ 1
    now = ap one_if (is_settled_at new r v d (omega (arith, start, low)) spread.0)

    mark_is : is_settled_in old.start old.cells r ≡ true → is_settled (cell_in old.start old.cells r).mark ≡ true
    mark_is e = second (nat_le old.start r) (is_settled (cell_in old.start old.cells r).mark) e
      where
        second : (a b : Bool) → (a && b) ≡ true → b ≡ true
        second a b e = grind arith

    by : (b : Bool) → (rank == r) ≡ b → IsSpread old r v d ⊎ ((rank ≡ r) × (settled_at new r ≡ Some (v, d)))
    by true e = inr (eqb-true rank r e, spread.0)
    by false e = inl (at (is_settled_in old.start old.cells r) refl)
      where
        none : one_if (rank == r) ≡ 0
        none = ap one_if e

        law : times_due new.fresh r + one_if (is_settled_in old.start old.cells r) + one_if (rank == r) ≡ times_due old.fresh r + one_if (is_settled_in new.start new.cells r)
        law = leaves r

        at : (b : Bool) → is_settled_in old.start old.cells r ≡ b → IsSpread old r v d
        at true f =
            let was : one_if (is_settled_in old.start old.cells r) ≡ 1 = ap one_if f in
            let same : settled_at new r ≡ settled_at old r =
            ap (λ s. settled_by (status_of (cell_in s new.cells r))) start ∙ kept_status (cell_in old.start old.cells r) (cell_in old.start new.cells r) (keeps r low) (mark_is f) in
            (sym same ∙ spread.0, omega (arith, now, none, law, was, spread.1))
        at false f = let was : one_if (is_settled_in old.start old.cells r) ≡ 0 = ap one_if f in absurd (omega (arith, now, none, law, was, spread.1))

-- what is settled and not fresh, or is the first fresh board, is spread
pub spread_forth : (old new : Part) (rank : ℕ) → new.start ≡ old.start → KeepSettled old.start old.cells new.cells → LeavesFresh old new rank → (r : ℕ) (v : ℤ) (d : ℕ) → old.start ≤ r
    → settled_at old r ≡ Some (v, d) → (times_due old.fresh r ≡ 0) ⊎ ((rank ≡ r) × (times_due old.fresh r ≤ 1)) → IsSpread new r v d
spread_forth old new rank start keeps leaves r v d low settled due = (still, by due)
  where
    still : settled_at new r ≡ Some (v, d)
    still = settled_still old new start keeps r v d low settled

    was : one_if (is_settled_in old.start old.cells r) ≡ 1
    was = ap one_if (is_settled_at old r v d low settled)

    now : one_if (is_settled_in new.start new.cells r) ≡ 1
    now = ap one_if (is_settled_at new r v d (omega (arith, start, low)) still)

    law : times_due new.fresh r + one_if (is_settled_in old.start old.cells r) + one_if (rank == r) ≡ times_due old.fresh r + one_if (is_settled_in new.start new.cells r)
    law = leaves r

    eqb_same : (a b : ℕ) → a ≡ b → (a == b) ≡ true
    eqb_same a b e = grind (arith, nat_tests)

    by : (times_due old.fresh r ≡ 0) ⊎ ((rank ≡ r) × (times_due old.fresh r ≤ 1)) → times_due new.fresh r ≡ 0
    by (inl none) = omega (arith, was, now, law, none)
    by (inr first) = let one : one_if (rank == r) ≡ 1 = ap one_if (eqb_same rank r first.0) in let few = first.1 in omega (arith, was, now, law, one, few)

-- the note that the first fresh board gives to a source
pub note_fits : (old : Part) (q : List ℕ) (score : ℤ) (y : Source) → 1 ≤ old.gain → IsEither old.gain score → sum y.0 ≡ old.level → IsQuietMove y.0 y.1 q
    → IsNoteOf q score old.wave y.0 y.1 (note_to old (kind_of score) y)
note_fits old q score y one either stones quiet = record {
  quiet = quiet;
  level = sym stones;
  target = refl;
  pit = refl;
  kind = kinds (int_lt (pos 0) score) refl;
  gain = gains (int_lt (pos 0) score) refl;
  same_dist = refl;
}
  where
    positive : (z : ℤ) → int_lt (pos 0) z ≡ true → pos 0 <ℤ z
    positive z e = grind (arith, ints, nat_tests)

    unpositive : (z : ℤ) → int_lt (pos 0) z ≡ false → z ≤ℤ pos 0
    unpositive z e = grind (arith, ints, nat_tests)

    kinds : (b : Bool) → int_lt (pos 0) score ≡ b → ((kind_of score ≡ Won) × (pos 0 <ℤ score)) ⊎ ((kind_of score ≡ Lost) × (score <ℤ pos 0))
    kinds true e = inl (ap (λ b. cond b Won Lost) e, positive score e)
    kinds false e = inr (ap (λ b. cond b Won Lost) e, (let low = unpositive score e in elim either [ inl up ↦ omega (arith, ints, low, up) | inr down ↦ omega (arith, ints, low, down) ]))

    gains : (b : Bool) → int_lt (pos 0) score ≡ b → gain_by (kind_of score) old.gain ≡ neg_ℤ score
    gains true e =
        ap (λ b. gain_by (cond b Won Lost) old.gain) e
        ∙ elim either [ inl up ↦ ap neg_ℤ (sym up) | inr down ↦ absurd (let high = positive score e in omega (arith, ints, high, down)) ]
    gains false e =
        ap (λ b. gain_by (cond b Won Lost) old.gain) e
        ∙ elim either [ inl up ↦ absurd (let low = unpositive score e in omega (arith, ints, low, up)) | inr down ↦ omega (arith, ints, down) ]

-- the first fresh board becomes spread, and no other
pub first_spreads : (old new : Part) (q : List ℕ) (score : ℤ) → IsBoard q → sum q ≡ old.level → settled_at old (rank_of q) ≡ Some (score, old.wave) → InBlock old (rank_of q) → times_due old.fresh (rank_of q) ≤ 1
    → new.level ≡ old.level → new.start ≡ old.start → length new.cells ≡ length old.cells → KeepSettled old.start old.cells new.cells → LeavesFresh old new (rank_of q)
    → SpreadsOne old new q score old.wave
first_spreads old new q score is_q stones settled held few level start len stays leaves = record {
  block = record { level = level; start = start; size = len };
  board = is_q;
  stones = stones;
  held = held;
  forth = λ r u e in_r spread. spread_forth old new (rank_of q) start stays leaves r u e in_r.0 spread.0 (inl spread.1);
  now = spread_forth old new (rank_of q) start stays leaves (rank_of q) score old.wave held.0 settled (inr (refl, few));
  back = λ r u e in_r spread. elim (spread_back old new (rank_of q) start stays leaves r u e in_r.0 spread) [
    | inl before ↦ inl before
    | inr here ↦ inr (
        let now : settled_at new (rank_of q) ≡ Some (score, old.wave) = settled_still old new start stays (rank_of q) score old.wave held.0 settled in
        let both = pairs (u, e) (score, old.wave) (sym here.1 ∙ ap (settled_at new) (sym here.0) ∙ now) in
        (sym here.0, both.0, both.1))
  ];
}
  where
    pairs : (a b : ℤ × ℕ) → Some a ≡ Some b → (a.0 ≡ b.0) × (a.1 ≡ b.1)
    pairs a b same = let both : a ≡ b = cc in (ap (λ (c : ℤ × ℕ). c.0) both, ap (λ (c : ℤ × ℕ). c.1) both)

-- the moves heard that stay in the block are those to spread boards, also once the first fresh board is spread
pub hears_first : (old new : Part) (notes : List Note) (q : List ℕ) (sources : List Source) (kind : Kind) (v : ℤ) (d : ℕ) → IsInjective → AreSources q sources
    → ((p : List ℕ) (x : ℕ) (r : List ℕ) → IsBoard p → IsQuietMove p x r → IsBoard r × (sum r ≡ sum p))
    → SpreadsOne old new q v d → AreNotesOf q v d sources (map (note_to old kind) sources)
    → HearsOwn old notes → HearsOwn new (with_heard (own_notes old kind sources) notes)
hears_first old new notes q sources kind v d injective are keeps one gives own =
    hears_spread old new notes q sources kind v d injective own are keeps one.board one.stones one.block.level inside
    (λ r in_r. let i = inside r in_r in held_is old.start r (length old.cells) i.0 i.1)
    (λ r u e in_r spread. one.forth r u e (inside r in_r) spread)
    one.now
    (λ r u e in_r spread. one.back r u e (inside r in_r) spread)
    gives
  where
    inside : (r : ℕ) → InBlock new r → InBlock old r
    inside r in_r = let a = in_r.0 in let b = in_r.1 in (omega (arith, a, one.block.start), omega (arith, b, one.block.start, one.block.size))
