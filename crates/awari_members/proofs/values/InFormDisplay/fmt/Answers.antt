use Rattle.std.proofs.Common.{◌≡◌, IsOk, List, ℕ, ap, map, subst, sym, ◌∙◌, rules}
use Rattle.std.specs.Fmt.{HasWritten, IsPlainFormatter, decimal}
use Rattle.awari_members.specs.Json.{array}
use Rattle.awari_members.specs.Members.{value_text}
use Rattle.awari_members.specs.declared.values.Value.{Value}
use Rattle.awari_members.proofs.MemberLaws.{pits-array}
use Rattle.awari_members.proofs.values.InFormDisplay.fmt.Goals as goal

pub returns-in-Pits-clause-writes : goal.returns-in-Pits-clause-writes
returns-in-Pits-clause-writes g c =
    let is : value_text c.args.self.now.0.now c.args.self.now.1 ≡ array (map decimal c.in-Pits.pits.now) = ap (λ (v : Value). value_text v c.args.self.now.1) c.in-Pits.is in
    subst (λ (bytes : List ℕ). IsPlainFormatter c.args.f.now → IsOk c.write-in-Pits.result → HasWritten g.W.Write.write_str_gives c.args.f.now bytes c.write-in-Pits.new.self)
    (pits-array c.in-Pits.pits.now ∙ sym is) (search rules)
