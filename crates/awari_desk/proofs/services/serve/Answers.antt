use Rattle.std.proofs.Common.{◌++◌, ◌∙◌, [], arith, length-append, refl}
use Rattle.std.proofs.KnownBytes.{Consumes-nil, Consumes-trans}
use Rattle.std.proofs.lemmas.Result.{err_from_is_err_and}
use Rattle.awari_desk.specs.declared.services.TheConstants.{LONGEST_INPUT}
use Rattle.awari_desk.proofs.Serves.{starts, served_within, served_all, begun_within, begun_all}
use Rattle.awari_desk.proofs.services.serve.Goals as goal

pub loop-fewer-init : goal.loop-fewer-init
loop-fewer-init g c = ([], Consumes-nil _, starts _ _ _ c.new-coming.ensures, refl, refl, refl)

pub loop-fewer-smaller : goal.loop-fewer-smaller
loop-fewer-smaller g c =
    let (taken, consumed, serving, sum, fi, fo) = c.loop-fewer.invariant in
    let (bytes, came, parts, less, serves) = rw c.in-Some.is at (c.in_ok-fewer.ensures.moves _ _ taken serving) in
    less

pub loop-fewer-preserved : goal.loop-fewer-preserved
loop-fewer-preserved g c =
    let (taken, consumed, serving, sum, fi, fo) = c.loop-fewer.invariant in
    let (bytes, came, parts, less, serves) = rw c.in-Some.is at (c.in_ok-fewer.ensures.moves _ _ taken serving) in
    (taken ++ bytes, Consumes-trans _ _ _ taken bytes consumed came, serves, omega (arith, length-append taken bytes, sum, parts), c.in_ok-fewer.ensures.clean.0 ∙ fi, c.in_ok-fewer.ensures.clean.1 ∙ fo)

pub returns-clause-served_within : goal.returns-clause-served_within
returns-clause-served_within g c =
    let (taken, consumed, serving, sum, fi, fo) = c.loop-fewer.invariant in
    served_within _ _ _ _ _ _ taken c.loop-fewer.left LONGEST_INPUT consumed sum (rw c.in_default.is at (c.in_ok-fewer.ensures.moves _ _ taken serving))

pub returns-clause-served : goal.returns-clause-served
returns-clause-served g c = served_all _ _ _ _ _ _ (returns-clause-served_within g c)

pub returns-in_err-fewer-clause-begun_within : goal.returns-in_err-fewer-clause-begun_within
returns-in_err-fewer-clause-begun_within g c =
    let (taken, consumed, serving, sum, fi, fo) = c.loop-fewer.invariant in
    let p = err_from_is_err_and c.from_residual.result c.from_residual.ensures.1 in
    rw p.1 (begun_within _ _ _ _ _ _ taken c.loop-fewer.left LONGEST_INPUT consumed sum (c.in_err-fewer.ensures.moves _ _ taken serving))

pub returns-in_err-fewer-clause-begun : goal.returns-in_err-fewer-clause-begun
returns-in_err-fewer-clause-begun g c =
    let (taken, consumed, serving, sum, fi, fo) = c.loop-fewer.invariant in
    let p = err_from_is_err_and c.from_residual.result c.from_residual.ensures.1 in
    rw p.1 (begun_all LONGEST_INPUT _ _ _ _ _ (begun_within _ _ _ _ _ _ taken c.loop-fewer.left LONGEST_INPUT consumed sum (c.in_err-fewer.ensures.moves _ _ taken serving)))
