use Rattle.awari_facts.proofs.FactLaws.{same_board}
use Rattle.awari_facts.proofs.numbers.Seen.board.Goals as goal

pub returns-clause-at : goal.returns-clause-at
returns-clause-at c = λ images board at. same_board c.args.self.now.level c.args.self.now.rank board c.unrank.result c.unrank.ensures.board c.unrank.ensures.stones c.unrank.ensures.rank at.listed
