use mir.Syntax.{w8, w64}
use mir.Val.{of_z, to_z}
use Rattle.std.proofs.Common.{◌≡◌, ap, pos, rules, sym, ◌∙◌}
use Rattle.awari_table.specs.declared.images.Entry.{Entry}
use Rattle.awari_facts.proofs.FactLaws.{rank_listed}
use Rattle.awari_facts.specs.Facts.{captures_by, largest_capture, legal_moves}
use Rattle.awari_facts.specs.Numbers.{number_in, or_less}
use Rattle.awari_facts.proofs.numbers.own_number.Goals as goal

pub returns-in-Rank-clause-number : goal.returns-in-Rank-clause-number
unfolding number_in
returns-in-Rank-clause-number c = λ images board at.
    let back : to_z w64 (of_z w64 c.from.result) ≡ c.from.result = search rules in
    back ∙ c.from.ensures ∙ ap (λ n. pos n) (rank_listed c.args.seen.now.level c.args.seen.now.rank board c.requires.level c.requires.rank at.listed) ∙ ap (λ column. number_in images column board) (sym c.in-Rank.is)

pub returns-in-Value-clause-number : goal.returns-in-Value-clause-number
unfolding number_in
returns-in-Value-clause-number c = λ images board at.
    let back : to_z w64 (of_z w64 c.from-in-Value.result) ≡ c.from-in-Value.result = search rules in
    let byte : to_z w8 (of_z w8 c.args.seen.now.entry.value) ≡ c.args.seen.now.entry.value = search rules in
    back ∙ c.from-in-Value.ensures ∙ byte ∙ ap (λ (e : Entry). e.value) at.entry ∙ ap (λ column. number_in images column board) (sym c.in-Value.is)

pub returns-in-Distance-clause-number : goal.returns-in-Distance-clause-number
unfolding number_in
returns-in-Distance-clause-number c = λ images board at.
    let back : to_z w64 (of_z w64 c.from-in-Distance.result) ≡ c.from-in-Distance.result = search rules in
    back ∙ c.from-in-Distance.ensures ∙ ap (λ (e : Entry). pos e.dist) at.entry ∙ ap (λ column. number_in images column board) (sym c.in-Distance.is)

pub returns-in-Plan-clause-number : goal.returns-in-Plan-clause-number
unfolding number_in
returns-in-Plan-clause-number c = λ images board at.
    let back : to_z w64 (of_z w64 c.or_less.result) ≡ c.or_less.result = search rules in
    back ∙ c.or_less.ensures ∙ ap (λ (e : Entry). or_less e.plan) at.entry ∙ ap (λ column. number_in images column board) (sym c.in-Plan.is)

pub returns-in-Captures-clause-number : goal.returns-in-Captures-clause-number
unfolding number_in
returns-in-Captures-clause-number c = λ images board at.
    let back : to_z w64 (of_z w64 c.or_less-in-Captures.result) ≡ c.or_less-in-Captures.result = search rules in
    back ∙ c.or_less-in-Captures.ensures ∙ ap or_less (c.plan_captures.ensures ∙ ap (λ b. captures_by b c.args.seen.now.entry.plan) (c.board.ensures.at images board at) ∙ ap (λ (e : Entry). captures_by board e.plan) at.entry) ∙ ap (λ column. number_in images column board) (sym c.in-Captures.is)

pub returns-in-Greedy-clause-number : goal.returns-in-Greedy-clause-number
unfolding number_in
returns-in-Greedy-clause-number c = λ images board at.
    let back : to_z w64 (of_z w64 c.or_less-in-Greedy.result) ≡ c.or_less-in-Greedy.result = search rules in
    back ∙ c.or_less-in-Greedy.ensures ∙ ap or_less (c.largest_capture.ensures ∙ ap largest_capture (c.board-in-Greedy.ensures.at images board at)) ∙ ap (λ column. number_in images column board) (sym c.in-Greedy.is)

pub returns-in-Moves-clause-number : goal.returns-in-Moves-clause-number
unfolding number_in
returns-in-Moves-clause-number c = λ images board at.
    let back : to_z w64 (of_z w64 c.from-in-Moves.result) ≡ c.from-in-Moves.result = search rules in
    back ∙ c.from-in-Moves.ensures ∙ ap (λ n. pos n) (c.legal_moves.ensures ∙ ap legal_moves (c.board-in-Moves.ensures.at images board at)) ∙ ap (λ column. number_in images column board) (sym c.in-Moves.is)
