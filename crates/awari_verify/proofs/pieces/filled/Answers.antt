use Rattle.std.proofs.Common.{◌++◌, List, ℕ, sum, take, drop, ap, ◌∙◌, arith}
use Rattle.awari_verify.proofs.FillingLemmas.{joined_stones}
use Rattle.awari_verify.proofs.pieces.filled.Goals as goal

pub joined-requires : goal.joined-requires
joined-requires c =
    let boards = c.requires.boards in
    let empty = c.requires.fillings in
    let few = c.requires.few in
    let same = ap (λ (l : List ℕ). sum (take 6 l ++ drop 6 c.args.other.now)) c.turned.ensures.turned in
    omega (arith, same, joined_stones c.args.own.now c.args.other.now boards.0.pits boards.1.pits empty.0 empty.1, few)

pub returns-clause-is : goal.returns-clause-is
returns-clause-is c = c.joined.ensures.joined ∙ ap (λ (l : List ℕ). take 6 l ++ drop 6 c.args.other.now) c.turned.ensures.turned

pub returns-clause-stones : goal.returns-clause-stones
returns-clause-stones c =
    let boards = c.requires.boards in
    let empty = c.requires.fillings in
    ap sum (returns-clause-is c) ∙ joined_stones c.args.own.now c.args.other.now boards.0.pits boards.1.pits empty.0 empty.1
