use Rattle.std.proofs.Common.{IsOk, List, ℕ, ap, map, subst, sym, ◌∙◌, rules}
use Rattle.std.specs.Fmt.{HasWritten, IsPlainFormatter}
use Rattle.awari_members.specs.declared.forms.Form.{Form}
use Rattle.awari_members.specs.Members.{line_text, said}
use Rattle.awari_members.proofs.MemberLaws.{csv-line, json-line, text-line}
use Rattle.awari_members.proofs.lines.LineDisplay.fmt.Goals as goal

pub returns-in-Text-clause-writes : goal.returns-in-Text-clause-writes
returns-in-Text-clause-writes g c =
    subst (λ (bytes : List ℕ). IsPlainFormatter c.args.f.now → IsOk c.write.result → HasWritten g.W.Write.write_str_gives c.args.f.now bytes c.write.new.self)
    (text-line (map said c.args.self.now.members.now) ∙ ap (λ (form : Form). line_text form (map said c.args.self.now.members.now)) (sym c.in-Text.is)) (search rules)

pub returns-in-Csv-clause-writes : goal.returns-in-Csv-clause-writes
returns-in-Csv-clause-writes g c =
    subst (λ (bytes : List ℕ). IsPlainFormatter c.args.f.now → IsOk c.write-in-Csv.result → HasWritten g.W.Write.write_str_gives c.args.f.now bytes c.write-in-Csv.new.self)
    (csv-line (map said c.args.self.now.members.now) ∙ ap (λ (form : Form). line_text form (map said c.args.self.now.members.now)) (sym c.in-Csv.is)) (search rules)

pub returns-in-Json-clause-writes : goal.returns-in-Json-clause-writes
returns-in-Json-clause-writes g c =
    subst (λ (bytes : List ℕ). IsPlainFormatter c.args.f.now → IsOk c.write-in-Json.result → HasWritten g.W.Write.write_str_gives c.args.f.now bytes c.write-in-Json.new.self)
    (json-line (map said c.args.self.now.members.now) ∙ ap (λ (form : Form). line_text form (map said c.args.self.now.members.now)) (sym c.in-Json.is)) (search rules)
