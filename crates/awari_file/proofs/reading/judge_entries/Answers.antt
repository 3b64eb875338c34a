use Rattle.std.proofs.Common.{◌≡◌, ◌∷◌, ◌++◌, ◌-◌, [], arith}
use Rattle.std.proofs.lemmas.Result.{err_from_is_err_and}
use Rattle.awari_file.specs.Reading.{entries_at}
use Rattle.awari_file.proofs.Loop.{with_front-nil, goes_on, ends, is_done, ok_from}
use Rattle.awari_file.proofs.reading.judge_entries.Goals as goal

pub loop-init : goal.loop-init
loop-init c =
    let k : c.args.count - 0 ≡ c.args.count = omega arith in
    ([], rw k (with_front-nil (entries_at c.args.count c.args.short c.args.bytes.now)))

pub returns-in_err-after : goal.returns-in_err-after
returns-in_err-after c =
    let p = err_from_is_err_and c.from_residual.result c.from_residual.ensures.1 in
    let (new, read) = c.loop.invariant in
    rw (p.1, p.2) (ends c.in_err-after.field-0.0 new c.args.count c.loop.counter c.args.short c.loop.rest.now (entries_at c.args.count c.args.short c.args.bytes.now) c.loop-test.true c.in_err-after.ensures read)

pub loop-preserved : goal.loop-preserved
loop-preserved c =
    let (new, read) = c.loop.invariant in
    let e = c.in_ok-after.field-0-0 in
    (new ++ e ∷ [], goes_on new c.args.count c.loop.counter c.args.short c.loop.rest.now e c.in_ok-after.after.now (entries_at c.args.count c.args.short c.args.bytes.now) c.loop-test.true c.in_ok-after.ensures read)

pub returns : goal.returns
returns c =
    let (new, read) = c.loop.invariant in
    ok_from (entries_at c.args.count c.args.short c.args.bytes.now) _ (is_done new c.args.count c.loop.counter c.args.short c.loop.rest.now (entries_at c.args.count c.args.short c.args.bytes.now) c.loop-test.false read)
