use Rattle.std.proofs.Common.{◌∙◌, ap, refl, sym}
use Rattle.awari_cli_tests.specs.Known.{stands_in}
use Rattle.awari_cli_tests.proofs.KnownLaws.{known_first, known_other, known_second, others_first, others_second}
use Rattle.awari_cli_tests.proofs.hosts.MemoryHostHost.open.Goals as goal

pub returns-then-eq-clause-opened : goal.returns-then-eq-clause-opened
returns-then-eq-clause-opened g c = ap stands_in c.replace.ensures.value ∙ sym (known_first c.args.self.now c.args.name.now (sym c.eq.ensures ∙ c.if-eq.true))

pub returns-then-eq-clause-others : goal.returns-then-eq-clause-others
returns-then-eq-clause-others g c = others_first c.args.self.now _ c.args.name.now (sym c.eq.ensures ∙ c.if-eq.true) refl

pub returns-then-eq-2-clause-opened : goal.returns-then-eq-2-clause-opened
returns-then-eq-2-clause-opened g c =
    ap stands_in c.replace-then-eq-2.ensures.value
    ∙ sym (known_second c.args.self.now c.args.name.now (sym c.eq.ensures ∙ c.if-eq.false) (sym c.eq-2.ensures ∙ c.if-eq-2.true))

pub returns-then-eq-2-clause-others : goal.returns-then-eq-2-clause-others
returns-then-eq-2-clause-others g c = others_second c.args.self.now _ c.args.name.now (sym c.eq-2.ensures ∙ c.if-eq-2.true) refl

pub returns-clause-opened : goal.returns-clause-opened
returns-clause-opened g c =
    known_other c.args.self.now c.args.name.now c.new-empty.result (sym c.eq.ensures ∙ c.if-eq.false) (sym c.eq-2.ensures ∙ c.if-eq-2.false) c.new-empty.ensures
