-- The boards of a run: with the same own pits and as many stones they have the same legal pits.
use Rattle.std.proofs.Common.{◌≡◌, ℕ, zero, ◌+◌, ◌<◌, ◌==◌, ◌++◌, length, [], inl, inr, Bool, true, false, List, get_or, sum, take, drop, if◌then◌else◌, refl, sym, ap, subst, ◌∙◌, arith}
use Rattle.std.proofs.lemmas.Bool.{false≢true}
use Rattle.std.proofs.lemmas.List.{get_or-take, get_or_default, length-take-le, take-append-le, take_all}
use Rattle.std.proofs.lemmas.List.Sums.{sum_by-take-drop}
use Rattle.std.specs.Prelude.{slice_index}
use Rattle.awari_board.specs.Rules.{IsLegal, IsMove, captured_stones, landing, last_pit, next_board, other_stones, run, sown}
use Rattle.awari_board.proofs.Capturing.{run_to-own}
use Rattle.awari_index.specs.Runs.{IsBoardAt, IsStretch}
use Rattle.awari_block.specs.Pits.{with_pit}
use Rattle.awari_scan.specs.Scan.{AreMovesBelow}
use Rattle.awari_block.proofs.PitSets.{has_pit-either, has_pit-none, split}

same_pit : (p h : List ℕ) (x : ℕ) → x < 6 → take 6 p ≡ take 6 h → slice_index p x ≡ slice_index h x
same_pit p h x own same = sym (get_or-take 6 p x 0 own) ∙ ap (λ l. get_or l x 0) same ∙ get_or-take 6 h x 0 own

legal_same : (p h : List ℕ) (x : ℕ) → take 6 p ≡ take 6 h → sum p ≡ sum h → IsLegal h x → IsLegal p x
legal_same p h x same stones legal =
    let at = same_pit p h x legal.own same in
    let held = legal.held in
    let parts_p = sum_by-take-drop (λ n. n) p 6 in
    let parts_h = sum_by-take-drop (λ n. n) h 6 in
    let own = ap sum same in
    let others : other_stones p ≡ other_stones h = omega (arith, parts_p, parts_h, own, stones) in
    record {
      own = legal.own;
      held = omega (arith, held, at);
      feeds = λ none. let f = legal.feeds (sym others ∙ none) in (f.0, f.1, (let most = f.2 in omega (arith, most, at)), f.3);
    }

either : (b : Bool) → (if b then zero else zero) ≡ zero
either true = refl
either false = refl

none_captured : (board : List ℕ) (last : ℕ) → run board last ≡ [] → captured_stones board last ≡ 0
none_captured board last none = ap (λ (r : List ℕ). if sum r == other_stones board then zero else sum r) none ∙ either (zero == other_stones board)

-- a sowing that ends on the own side captures nothing
near_quiet : (p : List ℕ) (x : ℕ) → IsLegal p x → last_pit p x < 6 → IsMove p x 0 (next_board p x)
near_quiet p x legal near = record { legal = legal; captures = sym (none_captured (sown p x) (last_pit p x) (run_to-own (sown p x) (last_pit p x + 1) (omega (arith, near)))); leaves = refl }

-- ---- pit by pit

module _ (p : List ℕ) where
  pub moves-none : AreMovesBelow p 0 0 0
  moves-none = record { quiet = λ x has. absurd (false≢true (sym (has_pit-none x) ∙ has)); legal = λ x has. absurd (false≢true (sym (has_pit-none x) ∙ has)); all = λ x less. absurd (omega (arith, less)) }

  moves-illegal : (k near far : ℕ) → (IsLegal p k → ⊥) → AreMovesBelow p k near far → AreMovesBelow p (k + 1) near far
  moves-illegal k near far illegal h = record {
    quiet = h.quiet;
    legal = h.legal;
    all = λ x less legal. elim (split x k less) [ inl low ↦ h.all x low legal | inr same ↦ absurd (illegal (subst (IsLegal p) (sym same) legal)) ];
  }

  moves-near : (k near far : ℕ) → IsLegal p k → last_pit p k < 6 → AreMovesBelow p k near far → AreMovesBelow p (k + 1) (with_pit near k) far
  moves-near k near far legal ends h = record {
    quiet = λ x has. elim ((has_pit-either near k x).0 has) [ inl same ↦ subst (λ y. (q : List ℕ) × IsMove p y 0 q) same (next_board p k, near_quiet p k legal ends) | inr old ↦ h.quiet x old ];
    legal = h.legal;
    all = λ x less can. elim (split x k less) [
      | inl low ↦ elim (h.all x low can) [ inl has ↦ inl ((has_pit-either near k x).1 (inr has)) | inr has ↦ inr has ]
      | inr same ↦ inl ((has_pit-either near k x).1 (inl same))
    ];
  }

  moves-far : (k near far : ℕ) → IsLegal p k → AreMovesBelow p k near far → AreMovesBelow p (k + 1) near (with_pit far k)
  moves-far k near far legal h = record {
    quiet = h.quiet;
    legal = λ x has. elim ((has_pit-either far k x).0 has) [ inl same ↦ subst (IsLegal p) same legal | inr old ↦ h.legal x old ];
    all = λ x less can. elim (split x k less) [
      | inl low ↦ elim (h.all x low can) [ inl has ↦ inl has | inr has ↦ inr ((has_pit-either far k x).1 (inr has)) ]
      | inr same ↦ inr ((has_pit-either far k x).1 (inl same))
    ];
  }

-- ---- what one board of a run tells of all

module _ (p h : List ℕ) (k near far : ℕ) (own : take 6 p ≡ take 6 h) (stones : sum p ≡ sum h) where
  pub adds-none : (IsLegal h k → ⊥) → AreMovesBelow p k near far → AreMovesBelow p (k + 1) near far
  adds-none illegal = moves-illegal p k near far (λ legal. illegal (legal_same h p k (sym own) (sym stones) legal))

  pub adds-near : (last : ℕ) → IsLegal h k → last ≡ last_pit h k → last < 6 → AreMovesBelow p k near far → AreMovesBelow p (k + 1) (with_pit near k) far
  adds-near last legal ends side before =
      let at : last_pit p k ≡ last = ap (landing k) (same_pit p h k legal.own own) ∙ sym ends in
      moves-near p k near far (legal_same p h k own stones legal) (omega (arith, at, side)) before

  pub adds-far : IsLegal h k → AreMovesBelow p k near far → AreMovesBelow p (k + 1) near (with_pit far k)
  adds-far legal before = moves-far p k near far (legal_same p h k own stones legal) before

-- a board of a stretch
pub record IsOfStretch (n r : ℕ) (head board : List ℕ) : Type 0 where
  pub at : IsBoardAt n r board
  pub own : take 6 board ≡ take 6 head
  pub stones : sum board ≡ sum head

pub of_stretch : (n m r k : ℕ) (head board d : List ℕ) (tails : List (List ℕ)) → m ≡ n → IsStretch m r head tails → k < length tails → board ≡ take 6 head ++ drop 6 (get_or tails k d)
    → IsOfStretch n (r + k) head board
of_stretch n m r k head board d tails level stretch inside joined =
    let same : board ≡ take 6 head ++ drop 6 (get_or tails k []) = joined ∙ ap (λ (t : List ℕ). take 6 head ++ drop 6 t) (get_or_default tails k d [] inside) in
    let at = subst (IsBoardAt m (r + k)) (sym same) (stretch.each k inside) in
    let long = stretch.board.pits in
    let front = length-take-le 6 head (omega (arith, long)) in
    record {
      at = subst (λ l. IsBoardAt l (r + k) board) level at;
      own = ap (take 6) same ∙ take-append-le 6 (take 6 head) (drop 6 (get_or tails k [])) (omega (arith, front)) ∙ take_all 6 (take 6 head) (omega (arith, front));
      stones = at.stones ∙ sym stretch.stones;
    }
