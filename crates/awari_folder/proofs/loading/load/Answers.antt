use Rattle.std.proofs.Common.{◌+◌, ap, arith, inl, inr, length, refl, rules, subst, ◌∙◌}
use Rattle.std.proofs.lemmas.Result.{err_from_is_err_and}
use Rattle.awari_folder.proofs.Empty.{truth_of_empty}
use Rattle.awari_folder.proofs.States.{only_reads, unchanged, unchanged_then}
use Rattle.awari_folder.proofs.Opened.{of_name, of_no_name, not_open, next_level, stored_to}
use Rattle.awari_folder.specs.declared.faults.FolderFault.TheVariants.{Open}
use Rattle.awari_folder.proofs.Placing.{fault_at, fault_to}
use Rattle.awari_folder.specs.NextFile.{IsFileFault, IsNextFile}
use Rattle.awari_folder.specs.Contents.{Opens}
use Rattle.awari_folder.proofs.loading.load.Goals as goal
use Rattle.awari_folder.proofs.loading.load.Goals.{else-loop-level-test, then-loop-level-test+in-Ok-None, then-loop-level-test+in-Ok-Some+in_ok-put_on-in-Ok-Some+else-level-most}

pub loop-level-init : goal.loop-level-init
loop-level-init g c = record {
  truth = truth_of_empty c.empty-stored.result.shelf c.empty-stored.ensures.shelf;
  levels = ap length c.empty-stored.ensures.shelf;
  held = λ names are. (c.empty-stored.ensures.shelf, c.empty-stored.ensures.digest);
  unchanged = unchanged _;
  refused = refl;
}

pub returns-in_err-put_on-in-Ok-Some-clause-reads : goal.returns-in_err-put_on-in-Ok-Some-clause-reads
returns-in_err-put_on-in-Ok-Some-clause-reads g c =
    let p = err_from_is_err_and c.from_residual.result c.from_residual.ensures.1 in
    let i = c.loop-level.invariant in
    only_reads _ _ _ (unchanged_then _ _ _ i.unchanged c.open.ensures.unchanged)
    (rw (p.1, p.2) (not_open _ _ _ c.in_err-put_on-in-Ok-Some.ensures.refused.of_file (c.in-Ok-Some.ensures.refused ∙ i.refused)))

pub returns-in_err-put_on-in-Ok-Some-clause-exact : goal.returns-in_err-put_on-in-Ok-Some-clause-exact
returns-in_err-put_on-in-Ok-Some-clause-exact g c = λ names are.
    let i = c.loop-level.invariant in
    let p = err_from_is_err_and c.from_residual.result c.from_residual.ensures.1 in
    let level = c.loop-level.level in
    let fault = c.in_err-put_on-in-Ok-Some.field-0.0 in
    let here = of_name g.F.File.Read.remaining _ _ _ c.in-Ok-Some.file (λ bytes. IsFileFault c.loop-level.stored.shelf c.loop-level.stored.digest bytes fault)
    c.new.ensures.inner (i.unchanged.stands level ∙ are level) (subst (λ o. Opens g.F.File.Read.remaining ((g.F.Folder.state c.loop-level.folder).stands level) o) c.in-Ok-Some.field-0-is c.in-Ok-Some.ensures.opened) c.in_err-put_on-in-Ok-Some.ensures.exact in
    rw (p.1, p.2) (fault_to _ c.args.most names level c.loop-level.stored.shelf c.loop-level.stored.digest fault (let low = c.loop-level-test.true in omega (arith, low)) (i.held names are)
    (fault_at _ names level c.loop-level.stored.shelf c.loop-level.stored.digest fault c.in_err-put_on-in-Ok-Some.ensures.refused.of_file here))

pub returns-in-Err-Refused-clause-exact : goal.returns-in-Err-Refused-clause-exact
returns-in-Err-Refused-clause-exact g c = λ names are.
    let i = c.loop-level.invariant in
    fault_to _ c.args.most names c.loop-level.level c.loop-level.stored.shelf c.loop-level.stored.digest (Open c.loop-level.level) (let low = c.loop-level-test.true in omega (arith, low)) (i.held names are) refl

pub loop-level-preserved : goal.loop-level-preserved
loop-level-preserved g c =
    let i = c.loop-level.invariant in
    let e = c.open.ensures in
    record {
      truth = c.in_ok-put_on-in-Ok-Some.ensures.right.1;
      levels = c.in_ok-put_on-in-Ok-Some.ensures.right.0 ∙ ap (λ n. n + 1) i.levels;
      held = λ names are. next_level names c.loop-level.level c.loop-level.stored.shelf c.loop-level.stored.digest c.put_on.new.self.shelf c.put_on.new.self.digest (i.held names are)
          (of_name g.F.File.Read.remaining _ _ _ c.in-Ok-Some.file (λ bytes. IsNextFile c.loop-level.stored.shelf c.loop-level.stored.digest bytes c.put_on.new.self.shelf c.put_on.new.self.digest)
          c.new.ensures.inner (i.unchanged.stands c.loop-level.level ∙ are c.loop-level.level) (subst (λ o. Opens g.F.File.Read.remaining ((g.F.Folder.state c.loop-level.folder).stands c.loop-level.level) o) c.in-Ok-Some.field-0-is c.in-Ok-Some.ensures.opened)
          c.in_ok-put_on-in-Ok-Some.ensures.exact);
      unchanged = unchanged_then _ _ _ i.unchanged e.unchanged;
      refused = c.in-Ok-Some.ensures.refused ∙ i.refused;
    }

pub returns-clause-exact : goal.returns-clause-exact
returns-clause-exact g c = λ names are.
    let i = c.loop-level.invariant in
    elim c.loop-level-test.branch [
      | else-loop-level-test w ↦ rw w.stored-is (stored_to c.args.most names c.loop-level.level c.loop-level.stored.shelf c.loop-level.stored.digest i.levels (i.held names are)
          (let end = c.loop-level.auto.level-end in omega (arith, end)) (inr (let end = w.loop-level-test.false in omega (arith, end))))
      | then-loop-level-test+in-Ok-None w ↦ rw w.stored-is (stored_to c.args.most names c.loop-level.level c.loop-level.stored.shelf c.loop-level.stored.digest i.levels (i.held names are)
          (let low = w.loop-level-test.true in omega (arith, low))
          (inl (of_no_name g.F.File.Read.remaining ((g.F.Folder.state c.loop-level.folder).stands c.loop-level.level) (names c.loop-level.level) (i.unchanged.stands c.loop-level.level ∙ are c.loop-level.level) (subst (λ o. Opens g.F.File.Read.remaining ((g.F.Folder.state c.loop-level.folder).stands c.loop-level.level) o) w.in-Ok-None.field-0-is w.in-Ok-None.ensures.opened))))
      | then-loop-level-test+in-Ok-Some+in_ok-put_on-in-Ok-Some+else-level-most w ↦ rw w.stored-is (stored_to c.args.most names (c.loop-level.level + 1) w.put_on.new.self.shelf w.put_on.new.self.digest
          (w.in_ok-put_on-in-Ok-Some.ensures.right.0 ∙ ap (λ n. n + 1) i.levels)
          (next_level names c.loop-level.level c.loop-level.stored.shelf c.loop-level.stored.digest w.put_on.new.self.shelf w.put_on.new.self.digest (i.held names are)
          (of_name g.F.File.Read.remaining _ _ _ w.in-Ok-Some.file (λ bytes. IsNextFile c.loop-level.stored.shelf c.loop-level.stored.digest bytes w.put_on.new.self.shelf w.put_on.new.self.digest)
          w.new.ensures.inner (i.unchanged.stands c.loop-level.level ∙ are c.loop-level.level) (subst (λ o. Opens g.F.File.Read.remaining ((g.F.Folder.state c.loop-level.folder).stands c.loop-level.level) o) w.in-Ok-Some.field-0-is w.in-Ok-Some.ensures.opened)
          w.in_ok-put_on-in-Ok-Some.ensures.exact))
          (let low = w.loop-level-test.true in omega (arith, low))
          (inr (search rules)))
    ]
