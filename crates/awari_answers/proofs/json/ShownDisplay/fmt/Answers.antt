use Rattle.std.proofs.Common.{IsOk, List, ℕ, rules, subst}
use Rattle.std.specs.Fmt.{HasWritten, IsPlainFormatter}
use Rattle.awari_answers.proofs.RefusalLaws.{parts_are}
use Rattle.awari_faults.specs.Parts.{said}
use Rattle.awari_answers.proofs.json.ShownDisplay.fmt.Goals as goal

pub returns-in-Json-clause-writes : goal.returns-in-Json-clause-writes
returns-in-Json-clause-writes g c =
    subst (λ (bytes : List ℕ). IsPlainFormatter c.args.f.now → IsOk c.write-in-Json.result → HasWritten g.W.Write.write_str_gives c.args.f.now bytes c.write-in-Json.new.self)
    (parts_are c.args.self.now.form c.args.self.now.request.now (said c.args.self.now.refusal) c.in-Json.is) (search rules)
