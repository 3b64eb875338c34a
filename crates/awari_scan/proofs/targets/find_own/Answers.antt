use Rattle.std.proofs.Common.{ap, rules, arith, ◌∙◌}
use Rattle.awari_scan.proofs.Finding.{IsFinding-none, IsFinding-more, IsFinding-place, IsFinding-fits}
use Rattle.awari_scan.proofs.targets.find_own.Goals as goal
use Rattle.awari_scan.specs.Found.{code_by}

pub loop-source-init : goal.loop-source-init
loop-source-init c = let room = c.requires.room in IsFinding-none _ _ _ c.into_iter-source-iterator.result (search rules) (omega (arith, room))

pub bounds-targets-count : goal.bounds-targets-count
bounds-targets-count c = IsFinding-place _ _ _ _ _ _ _ _ _ c.loop-source.invariant c.in-Some.ensures.steps

pub loop-source-preserved : goal.loop-source-preserved
loop-source-preserved c =
    IsFinding-more _ _ _ _ _ _ _ _ (c.in-Some.source, c.in-Some.origin) _ c.loop-source.invariant c.in-Some.ensures.steps (c.code.ensures ∙ ap (λ r. code_by r c.in-Some.origin) c.rank.ensures.rank)

pub code-requires : goal.code-requires
code-requires c =
    let fits = IsFinding-fits _ _ _ _ _ _ _ _ _ c.loop-source.invariant c.in-Some.ensures.steps c.requires.codes in
    let rank = c.rank.ensures.rank in
    (omega (arith, rank, fits.0), fits.1)
