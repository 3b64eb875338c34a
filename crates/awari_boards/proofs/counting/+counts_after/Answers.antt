use Rattle.std.proofs.Common.{◌≡◌, ◌-◌, suc, arith, refl}
use Rattle.std.proofs.lemmas.Bool.{false≢true}
use Rattle.awari_boards.proofs.PlayLaws.{counting-all, counting-bound, counting-fits, counting-more, counting-none, counting-skip, counts-fit, uncounted-on}
use Rattle.awari_boards.proofs.counting.+counts_after.Goals as goal

pub loop-pit-init : goal.loop-pit-init
loop-pit-init t c = counting-none _ _ _ refl refl refl

pub loop-pit-preserved-in_default-play : goal.loop-pit-preserved-in_default-play
loop-pit-preserved-in_default-play t c = counting-skip _ _ _ _ c.loop-pit.invariant (λ legal. false≢true (c.in_default-play.ensures.ok.1 legal))

pub returns-in-Err-clause-fault : goal.returns-in-Err-clause-fault
returns-in-Err-clause-fault t c =
    let is : c.args.plies ≡ suc (c.args.plies - 1) = omega arith in
    uncounted-on _ _ _ _ _ _ _ _ _ c.loop-pit.invariant c.in-Ok.ensures.moved is c.loop-pit-test.true c.in-Err.ensures.fault

pub plus-requires : goal.plus-requires
plus-requires t c =
    record { own = counting-fits _ _ _ _ c.loop-pit.invariant; more = counts-fit _ _ _ _ c.in-Ok-counts_after.ensures.counted }

pub returns-in_default-plus-clause-fault : goal.returns-in_default-plus-clause-fault
returns-in_default-plus-clause-fault t c =
    let is : c.args.plies ≡ suc (c.args.plies - 1) = omega arith in
    counting-bound _ _ _ _ _ _ _ _ _ c.loop-pit.invariant c.in-Ok.ensures.moved is c.loop-pit-test.true (omega (arith, c.in_default-plus.ensures.none refl, c.in-Ok-counts_after.ensures.counted.plays))

pub loop-pit-preserved : goal.loop-pit-preserved
loop-pit-preserved t c =
    counting-more _ _ _ _ _ _ _ _ c.loop-pit.invariant c.in-Ok.ensures.moved c.in-Ok-counts_after.ensures.counted c.in-Some-plus.ensures.sums.0 c.in-Some-plus.ensures.sums.1 c.in-Some-plus.ensures.sums.2

pub keep-requires : goal.keep-requires
keep-requires t c before =
    let is : c.args.plies ≡ suc (c.args.plies - 1) = omega arith in
    counting-all _ _ before _ _ _ c.loop-pit.invariant is (omega arith)

pub returns-in_ok-keep-clause-counted : goal.returns-in_ok-keep-clause-counted
returns-in_ok-keep-clause-counted t c =
    let is : c.args.plies ≡ suc (c.args.plies - 1) = omega arith in
    counting-all _ _ _ _ _ _ c.loop-pit.invariant is (omega arith)

pub returns-else-plies-gt1-clause-counted : goal.returns-else-plies-gt1-clause-counted
returns-else-plies-gt1-clause-counted t c =
    let is : c.args.plies ≡ suc (c.args.plies - 1) = omega arith in
    counting-all _ _ _ _ _ _ c.loop-pit.invariant is (omega arith)
