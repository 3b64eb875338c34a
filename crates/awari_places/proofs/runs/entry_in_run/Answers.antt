use Rattle.std.proofs.Common.{◌≡◌, ◌+◌, ℕ, slice_index_or, subst, arith}
use Rattle.awari_table.specs.Images.{no_entry}
use Rattle.awari_places.specs.Runs.{IsEntryAt}
use Rattle.awari_places.proofs.Running.{kept_said}
use Rattle.awari_places.proofs.runs.entry_in_run.Goals as goal

pub returns-in-Some-clause-entry : goal.returns-in-Some-clause-entry
returns-in-Some-clause-entry g c = λ levels images says low is. kept_said images c.args.level c.args.rank c.args.run.now c.in-Some.entry is c.in-Some.ensures

pub returns-in-Ok-clause-entry : goal.returns-in-Ok-clause-entry
returns-in-Ok-clause-entry g c = λ levels images says low is.
    let first : c.fill.new.run.first + 0 ≡ c.args.rank = omega (arith, c.in-Ok.ensures.filled.0) in
    subst (λ (r : ℕ). IsEntryAt images c.args.level r (slice_index_or c.fill.new.run.entries 0 no_entry)) first (c.fill.ensures.run levels images says low 0 c.in-Ok.ensures.filled.1)

pub returns-in-Ok-clause-run : goal.returns-in-Ok-clause-run
returns-in-Ok-clause-run g c = λ levels images says low is. c.fill.ensures.run levels images says low

pub returns-in-Err-clause-run : goal.returns-in-Err-clause-run
returns-in-Err-clause-run g c = λ levels images says low is. c.fill.ensures.run levels images says low
