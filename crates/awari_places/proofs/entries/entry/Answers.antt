use Rattle.awari_places.proofs.Reading.{entry_said_at}
use Rattle.awari_places.proofs.Refusing.{refused_at}
use Rattle.awari_places.proofs.entries.entry.Goals as goal

pub returns-clause-entry : goal.returns-clause-entry
returns-clause-entry g c = λ images says.
    entry_said_at _ _ images c.args.board.now c.stones.result c.rank.result _ says c.stones.ensures.stones c.rank.ensures.rank c.requires.known c.rank.ensures.below
    (c.entry_of_rank.ensures.entry (says.names c.stones.result) (says.known c.stones.result))

pub returns-clause-fault : goal.returns-clause-fault
returns-clause-fault g c =
    refused_at c.entry_of_rank.result _ _ c.stones.result c.rank.result c.stones.ensures.board c.stones.ensures.stones c.rank.ensures.rank c.entry_of_rank.ensures.fault
