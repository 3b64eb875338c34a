use Rattle.std.proofs.Common.{◌≡◌, ◌+◌, ◌*◌, ◌≤◌, ℕ, length, refl, rules, subst, arith}
use Rattle.std.specs.Prelude.{IsSomeAnd}
use Rattle.awari_folder.specs.Contents.{Reads}
use Rattle.awari_rank.specs.Rank.{size_of}
use Rattle.awari_places.specs.Runs.{IsLengthFault}
use Rattle.awari_places.proofs.Running.{fault_form, fault_length, run_said}
use Rattle.awari_places.proofs.runs.fill.Goals as goal

pub returns-in-Ok-split-clause-run : goal.returns-in-Ok-split-clause-run
returns-in-Ok-split-clause-run g c = λ levels images says low.
    let long : length c.read_at.new.room ≡ 6 * c.min-count.result = search rules in
    let few : c.args.rank + c.min-count.result ≤ size_of c.args.level = omega (arith, c.min-count.ensures, c.size.ensures.boards, c.requires.rank) in
    let read = subst (λ (r : ℕ). Reads ((g.F.Folder.state c.args.folder.now).stands c.args.level) r c.read_at.new.room c.in-Ok.size) c.entry_place-place.ensures c.in-Ok.ensures.read in
    let whole = subst (λ (r : ℕ). IsSomeAnd c.in-Ok.size (λ size. r + length c.read_at.new.room ≤ size)) c.entry_place-place.ensures (c.in-None.ensures.none refl) in
    run_said _ levels c.args.level c.args.rank c.min-count.result images c.read_at.new.room c.in-Ok.size c.split.new.run says low read whole long few c.split.ensures.first c.split.ensures.entries

pub returns-in-Err-clause-run : goal.returns-in-Err-clause-run
returns-in-Err-clause-run g c = λ levels images says low.
    let long : length c.read_at.new.room ≡ 6 * c.min-count.result = search rules in
    let few : c.args.rank + c.min-count.result ≤ size_of c.args.level = omega (arith, c.min-count.ensures, c.size.ensures.boards, c.requires.rank) in
    let read = subst (λ (r : ℕ). Reads ((g.F.Folder.state c.args.folder.now).stands c.args.level) r c.read_at.new.room c.in-Ok.size) c.entry_place-place.ensures c.in-Ok.ensures.read in
    let whole = subst (λ (r : ℕ). IsSomeAnd c.in-Ok.size (λ size. r + length c.read_at.new.room ≤ size)) c.entry_place-place.ensures (c.in-None.ensures.none refl) in
    run_said _ levels c.args.level c.args.rank c.min-count.result images c.read_at.new.room c.in-Ok.size c.split.new.run says low read whole long few c.split.ensures.first c.split.ensures.entries

pub returns-in-Some-clause-fault : goal.returns-in-Some-clause-fault
returns-in-Some-clause-fault g c =
    let long : length c.read_at.new.room ≡ 6 * c.min-count.result = search rules in
    let few : c.args.rank + c.min-count.result ≤ size_of c.args.level = omega (arith, c.min-count.ensures, c.size.ensures.boards, c.requires.rank) in
    let some : 1 ≤ c.min-count.result = omega (arith, c.min-count.ensures, c.size.ensures.boards, c.requires.rank) in
    let read = subst (λ (r : ℕ). Reads ((g.F.Folder.state c.args.folder.now).stands c.args.level) r c.read_at.new.room c.in-Ok.size) c.entry_place-place.ensures c.in-Ok.ensures.read in
    fault_length c.args.level c.args.rank c.min-count.result _ c.read_at.new.room c.in-Ok.size c.in-Some.fault some few read
    (subst (λ (whole : ℕ). IsLengthFault c.in-Ok.size whole c.in-Some.fault) (omega (arith, long, c.entry_place-place.ensures)) c.in-Some.ensures.fault)

pub returns-in-Err-clause-fault : goal.returns-in-Err-clause-fault
returns-in-Err-clause-fault g c =
    let long : length c.read_at.new.room ≡ 6 * c.min-count.result = search rules in
    let few : c.args.rank + c.min-count.result ≤ size_of c.args.level = omega (arith, c.min-count.ensures, c.size.ensures.boards, c.requires.rank) in
    let read = subst (λ (r : ℕ). Reads ((g.F.Folder.state c.args.folder.now).stands c.args.level) r c.read_at.new.room c.in-Ok.size) c.entry_place-place.ensures c.in-Ok.ensures.read in
    let whole = subst (λ (r : ℕ). IsSomeAnd c.in-Ok.size (λ size. r + length c.read_at.new.room ≤ size)) c.entry_place-place.ensures (c.in-None.ensures.none refl) in
    fault_form c.args.level c.args.rank c.min-count.result _ c.read_at.new.room c.in-Ok.size _ long few read whole c.in-Err.ensures.fault
