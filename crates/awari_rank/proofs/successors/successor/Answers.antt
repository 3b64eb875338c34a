use Rattle.std.proofs.Common.{refl, ◌∙◌, ap, arith, sum}
use Rattle.awari_rank.specs.Rank.{rank_of}
use Rattle.awari_rank.proofs.Succeeding.{succeeded, rank_of-next, rank_of-last, rank_of-before}
use Rattle.awari_rank.proofs.successors.successor.Goals as goal

pub returns-then-held-eq0-clause-last : goal.returns-then-held-eq0-clause-last
returns-then-held-eq0-clause-last c =
    let copied = c.pits-pits.ensures in
    (λ _. rank_of-last copied.pits copied.board c.last_held-held.ensures c.if-held-eq0.true, λ _. refl)

pub new-requires : goal.new-requires
new-requires c =
    let copied = c.pits-pits.ensures in
    let next = succeeded copied.pits copied.board c.last_held-held.ensures (omega arith) in
    omega (arith, next.stones, c.requires)

pub returns-clause-last : goal.returns-clause-last
returns-clause-last c =
    let copied = c.pits-pits.ensures in
    let next = succeeded copied.pits copied.board c.last_held-held.ensures (omega arith) in
    (λ none. cc, λ last. absurd (omega (arith, rank_of-before next copied.board.pits, last)))

pub returns-clause-stones : goal.returns-clause-stones
returns-clause-stones c =
    let copied = c.pits-pits.ensures in
    let next = succeeded copied.pits copied.board c.last_held-held.ensures (omega arith) in
    ap sum c.new.ensures.pits ∙ next.stones

pub returns-clause-rank : goal.returns-clause-rank
returns-clause-rank c =
    let copied = c.pits-pits.ensures in
    let next = succeeded copied.pits copied.board c.last_held-held.ensures (omega arith) in
    ap rank_of c.new.ensures.pits ∙ rank_of-next next copied.board.pits
