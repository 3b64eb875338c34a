use Rattle.std.proofs.Common.{ap, sym, ◌∙◌}
use Rattle.std.proofs.lemmas.Bool.{false≢true}
use Rattle.awari_facts.proofs.FactLaws.{captures-legal, captures-none}
use Rattle.awari_facts.specs.Facts.{captures_by}
use Rattle.awari_facts.proofs.facts.plan_captures.Goals as goal

pub returns-then-not-legal : goal.returns-then-not-legal
returns-then-not-legal c =
    captures-none c.args.board.now c.in_ok-pit.pit (λ legal. false≢true (sym c.if-not-legal.true ∙ c.legal.ensures.1 legal)) ∙ ap (captures_by c.args.board.now) (sym c.in_ok-pit.was)

pub returns : goal.returns
returns c = captures-legal c.args.board.now c.in_ok-pit.pit c.play.result.captured c.play.result.board c.play.ensures.moved ∙ ap (captures_by c.args.board.now) (sym c.in_ok-pit.was)
