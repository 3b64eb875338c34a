use Rattle.std.proofs.Common.{◌∙◌, ◌++◌, List, ℕ, ap, arith, subst, sym}
use Rattle.std.specs.Str.{IsUtf8}
use Rattle.awari_answers.proofs.RefusalLaws.{string_is_text}
use Rattle.awari_members.specs.Json.{json_string}
use Rattle.awari_answers.proofs.json.string_of.Goals as goal

pub returns-clause-text : goal.returns-clause-text
returns-clause-text c =
    subst IsUtf8 (sym (c.push_string.ensures.items ∙ ap (λ (t : List ℕ). t ++ json_string c.args.request.now) c.new-string.ensures)) (string_is_text c.args.request.now (λ k. omega (arith, c.type_inv.request k)))
