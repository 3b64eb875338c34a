use Rattle.std.proofs.Common.{rules, ◌≡◌, ◌+◌, ◌<◌, List, ℕ, ap, arith, map, sum, sym, true≢false, ◌∙◌, []}
use Rattle.std.specs.Prelude.{slice_index_or}
use Rattle.awari_exports.specs.declared.answers.PlainMove.{PlainMove}
use Rattle.awari_exports.proofs.FileMoves.{told_by_levels, worth_is}
use Rattle.awari_exports.proofs.files.move_by.Goals as goal

pub returns : goal.returns
returns c = λ levels are.
    let files : List (List ℕ) = map (λ file. file.now) c.args.files.now in let next = c.in-Ok.moved.board in let worth = c.worth_by.ensures in
    let kept = c.in-Ok.ensures.kept in let count = sum c.args.board.now + 1 in
    let there : sum next < count = omega (arith, kept) in
    let at : c.file_at.result.now ≡ slice_index_or files (sum next) [] = c.file_at.ensures ∙ ap (λ (n : ℕ). slice_index_or files n []) c.stones-left.ensures.stones in
    let told = told_by_levels count files levels next c.file_at.result.now c.entry_at-entry.result are there at c.entry_at-entry.ensures in
    record {
      legal = (λ _. search rules, λ _. ap (λ (m : PlainMove). m.legal) c.told_worth.ensures);
      worth = λ _. (c.worth_by.result, worth_is levels c.args.board.now next c.args.pit c.in-Ok.moved.captured c.entry_at-entry.result c.worth_by.result c.in-Ok.ensures.moved told worth.pit worth.captured worth.gain worth.even worth.uneven, c.told_worth.ensures);
      rest = λ none. absurd (true≢false (sym (ap (λ (m : PlainMove). m.legal) c.told_worth.ensures) ∙ none));
    }
