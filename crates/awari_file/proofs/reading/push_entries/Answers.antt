use Rattle.std.proofs.Common.{◌≡◌, ◌∙◌, ◌∷◌, ◌++◌, ◌-◌, [], List, sym, ap, arith, append_assoc}
use Rattle.std.proofs.lemmas.List.{append-nil}
use Rattle.awari_table.specs.declared.images.Entry.{Entry}
use Rattle.awari_file.specs.Reading.{entries_at}
use Rattle.awari_file.proofs.Loop.{with_front-nil, goes_on, ends, is_done}
use Rattle.awari_file.proofs.reading.push_entries.Goals as goal

pub loop-init : goal.loop-init
loop-init c =
    let k : c.args.count - 0 ≡ c.args.count = omega arith in
    ([], sym (append-nil c.args.entries.now), rw k (with_front-nil (entries_at c.args.count c.args.short c.args.bytes.now)))

pub returns-in-Err : goal.returns-in-Err
returns-in-Err c =
    let (new, items, read) = c.loop.invariant in
    ends c.in-Err.fault new c.args.count c.loop.counter c.args.short c.loop.rest.now (entries_at c.args.count c.args.short c.args.bytes.now) c.loop-test.true c.in-Err.ensures read

pub loop-preserved : goal.loop-preserved
loop-preserved c =
    let (new, items, read) = c.loop.invariant in
    let e = c.in-Ok.entry in (
      new ++ e ∷ [],
      c.in_ok-push-in-Ok.ensures.ok ∙ ap (λ (l : List Entry). l ++ e ∷ []) items ∙ append_assoc c.args.entries.now new (e ∷ []),
      goes_on new c.args.count c.loop.counter c.args.short c.loop.rest.now e c.in-Ok.after.now (entries_at c.args.count c.args.short c.args.bytes.now) c.loop-test.true c.in-Ok.ensures read,
    )

pub returns : goal.returns
returns c =
    let (new, items, read) = c.loop.invariant in
    (new, c.loop.rest.now, items, is_done new c.args.count c.loop.counter c.args.short c.loop.rest.now (entries_at c.args.count c.args.short c.args.bytes.now) c.loop-test.false read)
