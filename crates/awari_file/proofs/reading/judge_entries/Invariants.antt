use Rattle.std.proofs.Common.{◌≡◌, ◌-◌, List}
use Rattle.awari_table.specs.declared.images.Entry.{Entry}
use Rattle.awari_file.specs.Reading.{entries_at}
use Rattle.awari_file.proofs.Loop.{with_front}
use Rattle.awari_file.proofs.reading.judge_entries.Given as goal

abbrev pub invariant-loop : goal.invariant-loop
invariant-loop l = (new : List Entry) × (with_front new (entries_at (l.count - l.counter) l.short l.rest) ≡ entries_at l.count l.short l.bytes)
