use Rattle.std.proofs.Common.{sym, ap, ◌∙◌, subst, arith}
use Rattle.awari_board.specs.Rules.{other_stones}
use Rattle.awari_unmove.specs.Steps.{own_unmoves}
use Rattle.awari_unmove.specs.Predecessors.{IsOwnPredecessors}
use Rattle.awari_unmove.proofs.FarSide.{bits-turned, length-turned}
use Rattle.awari_unmove.proofs.OwnSide.{IsOwnSearch-start, IsOwnSearch-bare}
use Rattle.awari_unmove.proofs.Predecessors.{IsOwnPredecessors-start, IsOwnPredecessors-bare, length-own_unmoves}
use Rattle.awari_unmove.proofs.own.own_of.Goals as goal

pub invariant_of-result : goal.invariant_of-result
invariant_of-result c = IsOwnSearch-bare _ (length-turned _ _ c.requires.board c.requires.back)

pub returns-then-other_stones-eq0-clause-predecessors : goal.returns-then-other_stones-eq0-clause-predecessors
returns-then-other_stones-eq0-clause-predecessors c =
    let bare = ap other_stones (sym c.requires.back) ∙ sym c.other_stones.ensures ∙ c.if-other_stones-eq0.true in
    subst (λ back. IsOwnPredecessors c.args.board.now (own_unmoves back 6)) (sym c.requires.back) (IsOwnPredecessors-bare c.args.board.now c.requires.board bare)

pub returns-then-other_stones-eq0-clause-few : goal.returns-then-other_stones-eq0-clause-few
returns-then-other_stones-eq0-clause-few c = length-own_unmoves _ _

pub invariant_of-result-2 : goal.invariant_of-result-2
invariant_of-result-2 c =
    IsOwnSearch-start _ _ _ (length-turned _ _ c.requires.board c.requires.back) (bits-turned _ _ _ c.requires.board c.requires.back c.requires.bits) (omega (arith, c.other_stones.ensures, c.if-other_stones-eq0.false)) c.own_steps.ensures

pub returns-clause-predecessors : goal.returns-clause-predecessors
returns-clause-predecessors c = subst (λ back. IsOwnPredecessors c.args.board.now (own_unmoves back 0)) (sym c.requires.back) (IsOwnPredecessors-start c.args.board.now c.requires.board)

pub returns-clause-few : goal.returns-clause-few
returns-clause-few c = length-own_unmoves _ _
