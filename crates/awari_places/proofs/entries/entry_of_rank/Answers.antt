use Rattle.std.proofs.Common.{◌≡◌, ℕ, drop, subst, take}
use Rattle.std.specs.Prelude.{IfOk, IsSomeAnd}
use Rattle.awari_file.specs.Reading.{entry_of}
use Rattle.awari_folder.specs.Contents.{Reads}
use Rattle.awari_places.specs.Places.{entry_in, entry_or_none}
use Rattle.awari_places.proofs.Refusing.{entry_fault}
use Rattle.awari_places.proofs.entries.entry_of_rank.Goals as goal

pub returns-in-Ok-clause-entry : goal.returns-in-Ok-clause-entry
unfolding entry_in
returns-in-Ok-clause-entry g c = λ name known.
    let read = subst (λ s. Reads s c.entry_place-place.result c.read_at.new.room c.in-Ok.size) known c.in-Ok.ensures.read in
    subst (λ (k : ℕ). IfOk c.read_entry.result (λ e. IsSomeAnd name (λ bytes. e ≡ entry_or_none (entry_of (take 6 (drop k bytes)))))) c.entry_place-place.ensures (c.read_entry.ensures.entry name read)

pub returns-in-Ok-clause-fault : goal.returns-in-Ok-clause-fault
returns-in-Ok-clause-fault g c =
    entry_fault c.read_entry.result c.args.level c.args.rank _ c.entry_place-place.result c.entry_place-place.ensures (c.read_entry.ensures.fault _ c.in-Ok.ensures.read)
