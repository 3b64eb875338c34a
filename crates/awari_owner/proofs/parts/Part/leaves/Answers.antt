use Rattle.std.proofs.Common.{◌==◌, ◌≡◌, ◌↔◌, ◌∙◌, ℕ, Bool, IsTrue, List, true, false, not, refl, sum, sym, subst, eqb-true}
use Rattle.std.proofs.lemmas.Bool.{false≢true}
use Rattle.awari_board.specs.Rules.{IsBoard, IsMove}
use Rattle.awari_rank.specs.Rank.{rank_of}
use Rattle.awari_block.specs.Notes.{IsQuietMove}
use Rattle.awari_block.specs.Part.{Part, InBlock, Leaves}
use Rattle.awari_owner.proofs.parts.Part.leaves.Goals as goal

-- what is not held is out
out_is : (held : Bool) (P : Type 0) → IsTrue held ↔ P → IsTrue (not held) ↔ (P → ⊥)
out_is true P is = (λ t. absurd (false≢true t), λ out. absurd (out (is.0 refl)))
out_is false P is = (λ t p. absurd (false≢true (is.1 p)), λ out. refl)

-- whether the move leaves, by the one board that has this rank
leaves_by : (part : Part) (target pit : ℕ) (b : List ℕ) → ((p q : List ℕ) → IsBoard p → IsBoard q → sum p ≡ sum q → rank_of p ≡ rank_of q → p ≡ q) → IsBoard b → sum b ≡ part.level → rank_of b ≡ target
    → (c : ℕ) (q : List ℕ) → IsMove b pit c q → ((c ≡ 0) × (InBlock part (rank_of q) → ⊥)) ↔ Leaves part target pit
leaves_by part target pit b injective is stones at c q move = (
  λ both p is_p stones_p at_p.
      subst (λ (p : List ℕ). (r : List ℕ) × IsQuietMove p pit r × (InBlock part (rank_of r) → ⊥)) (injective b p is is_p (stones ∙ sym stones_p) (at ∙ sym at_p))
      (q, subst (λ n. IsMove b pit n q) both.0 move, both.1),
  λ leaves.
      let l = leaves b is stones at in
      (move.captures ∙ sym l.1.captures, λ inside. l.2 (subst (λ (r : List ℕ). InBlock part (rank_of r)) (move.leaves ∙ sym l.1.leaves) inside)),
)

pub returns-then-moved-eq0 : goal.returns-then-moved-eq0
returns-then-moved-eq0 c =
    let part : Part = c.self.inside.boards in
    let board = c.board_of-board.ensures in
    let by = leaves_by part c.args.target c.args.pit c.board_of-board.result c.ranks_tell_boards_apart.ensures board.board board.stones board.rank c.play-moved.result.captured c.play-moved.result.board c.play-moved.ensures.moved in
    let out = out_is c.holds.result _ (subst (λ r. IsTrue c.holds.result ↔ InBlock part r) c.rank.ensures.rank c.holds.ensures) in
    subst (λ (o : Part). IsTrue (not c.holds.result) ↔ Leaves o c.args.target c.args.pit) c.self.view_is (λ t. by.0 (c.if-moved-eq0.true, out.0 t), λ leaves. out.1 (by.1 leaves).1)

pub returns-else-moved-eq0 : goal.returns-else-moved-eq0
returns-else-moved-eq0 c =
    let part : Part = c.self.inside.boards in
    let board = c.board_of-board.ensures in
    let by = leaves_by part c.args.target c.args.pit c.board_of-board.result c.ranks_tell_boards_apart.ensures board.board board.stones board.rank c.play-moved.result.captured c.play-moved.result.board c.play-moved.ensures.moved in
    subst (λ (o : Part). IsTrue (c.play-moved.result.captured == 0) ↔ Leaves o c.args.target c.args.pit) c.self.view_is
    (λ t. absurd (c.if-moved-eq0.false (eqb-true _ _ t)), λ leaves. absurd (c.if-moved-eq0.false (by.1 leaves).0))
