use Rattle.std.proofs.Common.{◌≡◌, ◌∙◌, ◌++◌, ◌∷◌, [], ap, sym, subst, take, List, ℕ}
use Rattle.std.specs.Io.KnownBytes.{Appends}
use Rattle.std.specs.Str.{IsUtf8}
use Rattle.awari_answers.proofs.RefusalLaws.{shown_is}
use Rattle.awari_answers.specs.Asked.{refusal_of}
use Rattle.awari_answers.specs.Parts.{shown_text}
use Rattle.awari_faults.specs.Parts.{inside_said, reason_said, said}
use Rattle.awari_faults.specs.Refusals.{Words}
use Rattle.awari_answers.specs.Refusals.{refusal_line, request_text}
use Rattle.awari_members.specs.Json.{json_string}
use Rattle.awari_streams.specs.Counted.{AppendsFront}
use Rattle.awari_answers.proofs.json.print_refusal.Goals as goal

pub unreachable-requires : goal.unreachable-requires
unreachable-requires g c = c.in_default.ensures.cases.0 (subst IsUtf8 (sym c.as_slice-2.ensures.value) c.string_of-string.ensures.text)

pub returns : goal.returns
returns g c =
    let request = take 200 (request_text c.args.command.now c.args.word.now) in
    let told : c.in-Ok.request.now ≡ json_string request =
    c.in-Ok.ensures.cases.0 ∙ c.as_slice-2.ensures.value ∙ c.string_of-string.ensures.items
    ∙ ap json_string (c.as_slice.ensures.value ∙ c.request_of-request.ensures ∙ ap (λ (command : List ℕ). take 200 (request_text command c.args.word.now)) c.as_bytes.ensures.value) in
    let refusal = c.refusal.result in
    let line : shown_text c.args.form c.in-Ok.request.now (said refusal) ≡ refusal_line c.args.form request (refusal_of c.args.fault) =
    ap (λ (string : List ℕ). shown_text c.args.form string (said refusal)) told
    ∙ shown_is c.args.form request (reason_said refusal.reason) (inside_said refusal.inside)
    ∙ ap (λ (r : List Words). refusal_line c.args.form request r) c.refusal.ensures in
    record {
      whole = λ took. subst (λ (l : List ℕ). Appends (g.W.Write.contents c.args.writer.now) (g.W.Write.contents c.print_line.new.writer) (l ++ 10 ∷ [])) line (c.print_line.ensures.whole took);
      front = subst (λ (l : List ℕ). AppendsFront (g.W.Write.contents c.args.writer.now) (g.W.Write.contents c.print_line.new.writer) (l ++ 10 ∷ [])) line c.print_line.ensures.front;
    }
