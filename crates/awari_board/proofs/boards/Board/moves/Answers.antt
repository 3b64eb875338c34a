use Rattle.std.proofs.Common.{◌<◌, arith, rules}
use Rattle.awari_board.proofs.Listing.{IsListing-takes, IsListing-skips}
use Rattle.awari_board.proofs.boards.Board.moves.Goals as goal
use Rattle.awari_board.proofs.boards.Board.moves.Goals.{then-legal, else-legal}

pub loop-pit-preserved : goal.loop-pit-preserved
loop-pit-preserved c = record {
  few = search rules;
  listing = elim c.if-legal.branch [
    | then-legal w ↦ rw (w.moves-is, w.push.ensures.items) (IsListing-takes _ _ _ c.loop-pit.invariant.listing (search rules))
    | else-legal w ↦ rw w.moves-is (IsListing-skips _ _ _ c.loop-pit.invariant.listing (search rules))
  ];
}

pub returns-clause-legal : goal.returns-clause-legal
returns-clause-legal c = λ pit.
    let listed = c.loop-pit.invariant.listing.listed pit in
    (λ has. (listed.0 has).1, λ legal. listed.1 (let own : pit < 6 = legal.own in omega arith, legal))
