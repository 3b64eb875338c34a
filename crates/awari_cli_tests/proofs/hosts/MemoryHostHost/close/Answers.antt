use Rattle.std.proofs.Common.{◌∙◌, refl, sym}
use Rattle.awari_cli_tests.proofs.KnownLaws.{known_first, known_second, others_first, others_second}
use Rattle.awari_cli_tests.proofs.hosts.MemoryHostHost.close.Goals as goal

pub returns-then-eq-clause-closed : goal.returns-then-eq-clause-closed
returns-then-eq-clause-closed c = λ _. known_first _ c.args.name.now (sym c.eq.ensures ∙ c.if-eq.true)

pub returns-then-eq-clause-others : goal.returns-then-eq-clause-others
returns-then-eq-clause-others c = others_first c.args.self.now _ c.args.name.now (sym c.eq.ensures ∙ c.if-eq.true) refl

pub returns-then-eq-2-clause-closed : goal.returns-then-eq-2-clause-closed
returns-then-eq-2-clause-closed c = λ _. known_second _ c.args.name.now (sym c.eq.ensures ∙ c.if-eq.false) (sym c.eq-else-eq.ensures ∙ c.if-eq-2.true)

pub returns-then-eq-2-clause-others : goal.returns-then-eq-2-clause-others
returns-then-eq-2-clause-others c = others_second c.args.self.now _ c.args.name.now (sym c.eq-else-eq.ensures ∙ c.if-eq-2.true) refl
