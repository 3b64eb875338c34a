use Rattle.std.proofs.Common.{◌≡◌, ◌++◌, ◌∙◌, ◌<◌, ℕ, List, ap, sym, length, take, codes}
use Rattle.awari_answers.proofs.Requests.{request_of_word, some_of_test}
use Rattle.awari_answers.proofs.json.request_of.Goals as goal

pub returns-then-not-is_empty : goal.returns-then-not-is_empty
returns-then-not-is_empty c =
    let command = c.args.command.now in
    let word = c.args.word.now in
    let some : 0 < length word = some_of_test (length word) (sym c.is_empty.ensures ∙ c.if-not-is_empty.true) in
    let first : c.push_cut.new.text.items ≡ take 200 command =
    c.push_cut.ensures ∙ ap (λ (r : List ℕ). take 200 (r ++ command)) c.new-request.ensures in
    c.push_cut-then-not-is_empty-2.ensures
    ∙ ap (λ (r : List ℕ). take 200 (r ++ word))
    (c.push_cut-then-not-is_empty.ensures ∙ ap (λ (r : List ℕ). take 200 (r ++ codes " ")) first)
    ∙ request_of_word 200 command word some
