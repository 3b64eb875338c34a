use Rattle.std.proofs.Common.{sym, ◌∙◌}
use Rattle.std.proofs.lemmas.Bool.{false≢true}
use Rattle.awari_facts.proofs.FactLaws.{captured-none}
use Rattle.awari_facts.proofs.facts.captured_by.Goals as goal

pub returns-then-not-legal : goal.returns-then-not-legal
returns-then-not-legal c = captured-none c.args.board.now c.args.pit (λ legal. false≢true (sym c.if-not-legal.true ∙ c.legal.ensures.1 legal))
