-- A finished level is consistent over the shelf.
use Rattle.std.proofs.Common.{◌≡◌, ℕ, zero, suc, ◌+◌, ◌<◌, ◌≤◌, ◌==◌, ◌⊎◌, inl, inr, Bool, true, false, if◌then◌else◌, List, [], ◌∷◌, ◌++◌, length, get_or, sum, ℤ, pos, negsuc, neg_ℤ, ◌≤ℤ◌, ◌<ℤ◌, refl, sym, ap, ◌∙◌, subst, arith}
use Rattle.std.specs.Prelude.{◌-ℤ◌}
use Rattle.std.proofs.lemmas.Bool.{false≢true}
use Rattle.std.proofs.lemmas.Int.{ints}
use Rattle.awari_board.specs.Rules.{IsBoard, IsMove, IsEnd, IsEnded, own_stones}
use Rattle.awari_board.specs.Tests.{is_ended}
use Rattle.awari_board.proofs.Legal.{ended_is}
use Rattle.awari_board.proofs.Keeping.{IsBoard-next, sum-from_IsMove}
use Rattle.awari_rank.specs.Rank.{rank_of, size_of}
use Rattle.awari_table.specs.declared.TheConstants.{HIGHEST_LEVEL}
use Rattle.awari_table.specs.declared.images.Entry.{Entry}
use Rattle.awari_table.specs.declared.images.Image.{Image}
use Rattle.awari_table.specs.Certificate.{Table, plies, IsRight, DistancesAreLeast}
use Rattle.awari_table.proofs.CertificateLemmas.{plies_taken}
use Rattle.awari_table.specs.Images.{table_of, no_entry}
use Rattle.awari_table.specs.Shelves.{Consistent}
use Rattle.awari_table.proofs.EntryLemmas.{entry_of-append, entry_of-rank}
use Rattle.awari_block.specs.Tally.{Status, Ended, Open, Settled, Cell}
use Rattle.awari_block.specs.Cells.{IsWithin}
use Rattle.awari_heard.specs.Finish.{value_by, dist_by, gains, IsRightAt}
use Rattle.awari_block.specs.Part.{Part}
use Rattle.awari_scan.specs.Scan.{IsRanged}
use Rattle.awari_heard.specs.Kept.{HasSettled, HasStatus}
use Rattle.awari_plan.specs.Finished.{IsFinished}
use Rattle.awari_play.specs.Plan.{Serves}
use Rattle.awari_play.proofs.Serving.{lowest_ended, lowest_own, lowest_serves, lowest_there}

-- an entry has what its board's cell says
pub has_value : (s : Status) (e : Entry) → HasStatus s e → (e.value ≡ value_by s) × (e.dist ≡ dist_by s)
has_value (Ended gain) e h = h
has_value (Open best plans far) e h = h
has_value (Settled value dist plans) e h = h

module _ (shelf : List Image) (cell : List ℕ → Cell) (parts : List Part) (image : Image)
    (ranged : IsRanged (table_of shelf).value (length shelf))
    (right : (p : List ℕ) → IsBoard p → sum p ≡ length shelf → IsRightAt (table_of shelf).value cell p)
    (has_settled : (p : List ℕ) → IsBoard p → sum p ≡ length shelf → HasSettled (cell p) (get_or image.entries (rank_of p) no_entry))
    (finished : IsFinished shelf parts image) where
  abbrev table : Table
  table = table_of (shelf ++ image ∷ [])

  abbrev value_at : List ℕ → ℤ
  value_at p = value_by (cell p).status

  abbrev dist_at : List ℕ → ℕ
  dist_at p = dist_by (cell p).status

  has : (p : List ℕ) → IsBoard p → sum p ≡ length shelf → (table.value p ≡ value_at p) × (table.dist p ≡ dist_at p)
  has p is stones =
      let there = has_value (cell p).status (get_or image.entries (rank_of p) no_entry) (has_settled p is stones) in
      let found = entry_of-rank shelf image p (rank_of p) stones refl in
      (ap (λ (e : Entry). e.value) found ∙ there.0, ap (λ (e : Entry). e.dist) found ∙ there.1)

  below : (q : List ℕ) → sum q < length shelf → table.value q ≡ (table_of shelf).value q
  below q low = ap (λ (e : Entry). e.value) (entry_of-append shelf (image ∷ []) q low)

  next_is : (p : List ℕ) (x : ℕ) (q : List ℕ) → IsBoard p → sum p ≡ length shelf → IsMove p x 0 q → IsBoard q × (sum q ≡ length shelf)
  next_is p x q is stones move = (IsBoard-next p x 0 q is move, (let kept = sum-from_IsMove p x 0 q is.pits move in omega (arith, kept, stones)))

  -- what a move gains by the table
  gained : (p : List ℕ) (x c : ℕ) (q : List ℕ) → IsBoard p → sum p ≡ length shelf → IsMove p x c q
      → gains (table_of shelf).value cell c q (pos c -ℤ table.value q)
  gained p x zero q is stones move =
      let next = next_is p x q is stones move in
      let there = (has q next.0 next.1).0 in
      inr (refl, omega (arith, ints, there))
  gained p x (suc c) q is stones move =
      let kept = sum-from_IsMove p x (suc c) q is.pits move in
      inl (omega arith, ap (λ v. pos (suc c) -ℤ v) (below q (omega (arith, kept, stones))))

  gained_back : (p : List ℕ) (x c : ℕ) (q : List ℕ) → IsBoard p → sum p ≡ length shelf → IsMove p x c q
      → gains (table_of shelf).value cell c q (value_at p) → (pos c -ℤ table.value q) ≡ table.value p
  gained_back p x zero q is stones move (inl some) = absurd (omega (arith, some.0))
  gained_back p x zero q is stones move (inr quiet) =
      let next = next_is p x q is stones move in
      let there = (has q next.0 next.1).0 in
      let here = (has p is stones).0 in
      let turned = quiet.1 in
      omega (arith, ints, there, here, turned)
  gained_back p x (suc c) q is stones move (inl some) =
      let kept = sum-from_IsMove p x (suc c) q is.pits move in
      ap (λ v. pos (suc c) -ℤ v) (below q (omega (arith, kept, stones))) ∙ sym some.1 ∙ sym (has p is stones).0
  gained_back p x (suc c) q is stones move (inr quiet) = absurd (omega (arith, quiet.0))

  nearer : (p : List ℕ) (x c : ℕ) (q : List ℕ) → IsBoard p → sum p ≡ length shelf → IsMove p x c q
      → (pos 0 <ℤ value_at p → (0 < c) ⊎ (dist_at q < dist_at p)) → pos 0 <ℤ table.value p → (0 < c) ⊎ (table.dist q < table.dist p)
  nearer p x (suc c) q is stones move near won = inl (omega arith)
  nearer p x zero q is stones move near won =
      let next = next_is p x q is stones move in
      let there = (has q next.0 next.1).1 in
      let here = has p is stones in
      elim (near (subst (λ v. pos 0 <ℤ v) here.0 won)) [
        | inl some ↦ absurd (omega (arith, some))
        | inr lt ↦ inr (omega (arith, lt, there, here.1))
      ]

  -- the move by which a plan keeps the rules serves
  there_serves : (p : List ℕ) → IsBoard p → sum p ≡ length shelf → (IsEnded p → ⊥) → (x : ℕ) × Serves table p x
  there_serves p is stones going =
      let (x, c, q, move, gain, near) = (right p is stones).planned going in
      (x, (c, q, move, gained_back p x c q is stones move gain, nearer p x c q is stones move near))

  -- the plies of a move are those by the cells
  plies_at : (p : List ℕ) (x c : ℕ) (q : List ℕ) → IsBoard p → sum p ≡ length shelf → IsMove p x c q → plies c (table.dist q) ≡ plies c (dist_at q)
  plies_at p x zero q is stones move = let next = next_is p x q is stones move in ap (plies 0) (has q next.0 next.1).1
  plies_at p x (suc c) q is stones move = plies_taken (suc c) (table.dist q) (omega arith) ∙ sym (plies_taken (suc c) (dist_at q) (omega arith))

  least : (p : List ℕ) → IsBoard p → sum p ≡ length shelf → DistancesAreLeast table p
  least p is stones =
      let here = has p is stones in
      let r = right p is stones in
      record {
        even = λ e. here.1 ∙ r.even (sym here.0 ∙ e);
        won = λ going up.
            let (some, all) = r.won going (subst (λ v. pos 0 <ℤ v) here.0 up) in
            let (x, c, q, move, gain, takes) = some in (
              (x, c, q, move, gained_back p x c q is stones move gain, plies_at p x c q is stones move ∙ takes ∙ sym here.1),
              λ y d s other gains_too.
                  let by_cells = all y d s other
                  (subst (λ v. gains (table_of shelf).value cell d s v) (gains_too ∙ here.0) (gained p y d s is stones other)) in
                  omega (arith, by_cells, here.1, plies_at p y d s is stones other),
            );
        lost = λ going down.
            let (some, all) = r.lost going (subst (λ v. v <ℤ pos 0) here.0 down) in
            let (x, c, q, move, takes) = some in (
              (x, c, q, move, plies_at p x c q is stones move ∙ takes ∙ sym here.1),
              λ y d s other. let by_cells = all y d s other in omega (arith, by_cells, here.1, plies_at p y d s is stones other),
            );
        winning = λ won x c q plan move.
            let (d, s, serving, gain, near) = lowest_serves table p x (table.plan p) (finished.planned p is stones) plan in
            subst (λ n. (0 < n) ⊎ (table.dist q < table.dist p)) (serving.captures ∙ sym move.captures)
            (subst (λ b. (0 < d) ⊎ (table.dist b < table.dist p)) (serving.leaves ∙ sym move.leaves) (near won));
      }

  -- an end gains all stones, either way
  end_within : (b : Bool) (n : ℕ) → IsWithin n (if b then neg_ℤ (pos n) else pos n)
  end_within true n = (omega (arith, ints), omega (arith, ints))
  end_within false n = (omega (arith, ints), omega (arith, ints))

  -- the values of the boards that are nearer than this are within the stones
  abbrev AreWithin : ℕ → Type 0
  AreWithin k = (p : List ℕ) → IsBoard p → sum p ≡ length shelf → dist_at p < k → IsWithin (length shelf) (value_at p)

  -- a value that is not 0 comes of an end, of a capture, or of a nearer board
  within_next : (k : ℕ) → AreWithin k → AreWithin (suc k)
  within_next k before p is stones near = go (is_ended p) refl
    where
      moved : (c : ℕ) (x : ℕ) (q : List ℕ) → IsMove p x c q → gains (table_of shelf).value cell c q (value_at p)
          → (pos 0 <ℤ value_at p → (0 < c) ⊎ (dist_at q < dist_at p)) → IsWithin (length shelf) (value_at p)
      moved (suc c) x q move (inl some) falls =
          let kept = sum-from_IsMove p x (suc c) q is.pits move in
          let (low, high) = ranged q (IsBoard-next p x (suc c) q is move) (omega (arith, kept, stones)) in
          let gain = some.1 in
          (omega (arith, ints, kept, stones, low, high, gain), omega (arith, ints, kept, stones, low, high, gain))
      moved (suc c) x q move (inr none) falls = absurd (omega (arith, none.0))
      moved zero x q move (inl some) falls = absurd (omega (arith, some.0))
      moved zero x q move (inr quiet) falls = sign (value_at p) refl
        where
          turned : dist_at q < dist_at p → IsWithin (length shelf) (value_at p)
          turned lt =
              let next = next_is p x q is stones move in
              let (low, high) = before q next.0 next.1 (omega (arith, lt, near)) in
              let same = quiet.1 in
              (omega (arith, ints, low, high, same), omega (arith, ints, low, high, same))

          sign : (v : ℤ) → value_at p ≡ v → IsWithin (length shelf) (value_at p)
          sign (pos zero) e = (omega (arith, ints, e), omega (arith, ints, e))
          sign (pos (suc n)) e = elim (falls (omega (arith, ints, e))) [ inl some ↦ absurd (omega (arith, some)) | inr lt ↦ turned lt ]
          sign (negsuc n) e = turned ((right p is stones).losing (omega (arith, ints, e)) x q move)

      go : (b : Bool) → is_ended p ≡ b → IsWithin (length shelf) (value_at p)
      go true e =
          let stuck = (ended_is p).0 e in
          let end : IsEnd p _ = record { stuck = stuck; gains = refl } in
          subst (IsWithin (length shelf)) (sym ((right p is stones).ends _ end).0)
          (subst (λ n. IsWithin n (if own_stones p == 0 then neg_ℤ (pos (sum p)) else pos (sum p))) stones (end_within (own_stones p == 0) (sum p)))
      go false e =
          let (x, c, q, move, gain, falls) = (right p is stones).planned (λ stuck. false≢true (sym e ∙ (ended_is p).1 stuck)) in
          moved c x q move gain falls

  within : (k : ℕ) → AreWithin k
  within zero p is stones near = absurd (omega (arith, near))
  within (suc k) p is stones near = within_next k (within k) p is stones near

  rules : (p : List ℕ) → IsBoard p → sum p ≡ length shelf → IsRight table p
  rules p is stones =
      let here = has p is stones in
      let r = right p is stones in
      let lowest = finished.planned p is stones in
      let inside : IsWithin (sum p) (table.value p) = subst (λ n. IsWithin n (table.value p)) (sym stones)
      (subst (IsWithin (length shelf)) (sym here.0) (within (dist_at p + 1) p is stones (omega arith))) in
      record {
        in_range = (inside.0, inside.1, lowest_own table p (table.plan p) lowest);
        ends = λ g end. (here.0 ∙ (r.ends g end).0, lowest_ended table p (table.plan p) lowest end.stuck, here.1 ∙ (r.ends g end).1);
        has_plan = λ going. let some = there_serves p is stones going in lowest_there table p some.0 (table.plan p) lowest some.1;
        no_more = λ x c q move. subst (λ v. (pos c -ℤ table.value q) ≤ℤ v) (sym here.0) (r.no_more x c q _ move (gained p x c q is stones move));
        plan_gains = λ x c q plan move.
            let (d, s, serving, gain, near) = lowest_serves table p x (table.plan p) lowest plan in
            subst (λ n. (pos n -ℤ table.value q) ≡ table.value p) (serving.captures ∙ sym move.captures)
            (subst (λ b. (pos d -ℤ table.value b) ≡ table.value p) (serving.leaves ∙ sym move.leaves) gain);
        distances = least p is stones;
      }

  pub consistent : length shelf ≤ HIGHEST_LEVEL → Consistent shelf image
  consistent low = record {
    next = finished.level;
    low = subst (λ n. n ≤ HIGHEST_LEVEL) (sym finished.level) low;
    sized = finished.sized ∙ ap size_of (sym finished.level);
    right = λ p is stones. rules p is (stones ∙ finished.level);
    limited = finished.limited;
  }
