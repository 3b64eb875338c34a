use Rattle.std.proofs.Common.{◌≡◌, ap, arith, ◌∙◌}
use Rattle.std.specs.List.{range_with_len}
use Rattle.awari_facts.specs.Facts.{most_of}
use Rattle.awari_facts.proofs.FactLaws.{most-next}
use Rattle.awari_facts.proofs.facts.most_captured.Goals as goal

pub loop-pit-preserved : goal.loop-pit-preserved
loop-pit-preserved c = record { found = most-next c.args.board.now c.loop-pit.pit c.loop-pit.most _ _ c.loop-pit.invariant.found c.captured_by.ensures c.max-most.ensures }

pub returns : goal.returns
returns c =
    let all : c.loop-pit.pit ≡ 6 = omega arith in
    c.loop-pit.invariant.found ∙ ap (λ n. most_of c.args.board.now (range_with_len 0 n)) all
