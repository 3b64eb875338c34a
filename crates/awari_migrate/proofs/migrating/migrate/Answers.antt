use Rattle.std.proofs.Common.{rules, arith, ◌≡◌, ◌+◌, ◌∷◌, ◌++◌, [], ◌∙◌, ap, subst, inl, inr, None, IfSome, length, refl, sym}
use Rattle.std.proofs.lemmas.Result.{err_from_is_err_and}
use Rattle.awari_folder.specs.declared.faults.FolderFault.TheVariants.{Memory}
use Rattle.awari_table.specs.Shelves.{Consistent}
use Rattle.awari_table.specs.declared.images.Image.{Image}
use Rattle.awari_migrate.specs.Migration.{IsNextMigrated}
use Rattle.awari_folder.specs.Contents.{HoldsIn}
use Rattle.awari_folder.proofs.States.{unchanged, unchanged_then}
use Rattle.awari_migrate.proofs.Migrations.{come-none, come-next, come_end, longer, leaves-more, rest-more, either_first, either_second, memory_first, fault_first, store_first}
use Rattle.awari_migrate.proofs.migrating.migrate.Goals.{else-loop-test, then-loop-test+in_ok-next+in_default}
use Rattle.awari_migrate.proofs.migrating.migrate.Goals as goal

pub returns-in_err-limits-clause-exact : goal.returns-in_err-limits-clause-exact
returns-in_err-limits-clause-exact g c = λ names others from to.
    let p = err_from_is_err_and c.from_residual.result c.from_residual.ensures.1 in
    rw (p.1, p.2) (memory_first names others _ to)

pub loop-init : goal.loop-init
loop-init g c = record {
  levels = ap length c.empty-shelf.ensures;
  len = c.in_ok-limits.ensures.len;
  room = c.in_ok-limits.ensures.capacity;
  come = λ names others from to. come-none names others _ c.empty-shelf.result c.in_ok-limits.limits.items to c.empty-shelf.ensures c.in_ok-limits.ensures.items;
  to_rest = λ others to n le. to n;
  whole = record { still = λ n o h. h; whole = λ others to n left end. inl end };
  kept = λ n bytes is. is;
  from_refused = refl;
  to_refused = refl;
  unchanged = unchanged _;
}

pub returns-in_err-next-clause-exact : goal.returns-in_err-next-clause-exact
returns-in_err-next-clause-exact g c = λ names others from to.
    let i = c.loop.invariant in
    let p = err_from_is_err_and c.from_residual-in_err-next.result c.from_residual-in_err-next.ensures.1 in
    let n = length c.loop.shelf in
    rw (p.1, p.2) (fault_first names others _ c.loop.counter c.loop.shelf c.loop.below c.loop.limits.items c.loop.digest _ i.levels (i.come names others from to)
    (c.in_err-next.ensures.exact (names n) (others n) (i.unchanged.stands n ∙ from n)))

pub returns-in_err-level-clause-exact : goal.returns-in_err-level-clause-exact
returns-in_err-level-clause-exact g c = λ names others from to.
    let i = c.loop.invariant in
    let p = err_from_is_err_and c.from_residual-in_err-level.result c.from_residual-in_err-level.ensures.1 in
    rw (p.1, p.2) (fault_first names others _ c.loop.counter c.loop.shelf c.loop.below c.loop.limits.items c.loop.digest Memory i.levels (i.come names others from to) tt)

pub returns-in_err-digest-clause-exact : goal.returns-in_err-digest-clause-exact
returns-in_err-digest-clause-exact g c = λ names others from to.
    let i = c.loop.invariant in
    let p = err_from_is_err_and c.from_residual-in_err-digest.result c.from_residual-in_err-digest.ensures.1 in
    let n = length c.loop.shelf in
    let next = c.in-Some.next in
    let put = c.deref.result.now in
    let same : put ≡ next.level = search rules in
    let migrated = subst (IsNextMigrated c.loop.shelf c.loop.below (names n)) c.in-Some.is (c.in_ok-next.ensures.exact (names n) (others n) (i.unchanged.stands n ∙ from n)) in
    let right = subst (λ o. IfSome o (λ m. Consistent c.loop.shelf m.level)) c.in-Some.is c.in_ok-next.ensures.right in
    rw (p.1, p.2) (store_first names others _ _ c.loop.counter c.loop.shelf c.loop.below next.digest c.loop.limits.items c.loop.digest next.level put next.limits _ i.levels same (i.come names others from to) migrated right
    c.in_err-digest.ensures.fault c.in_err-digest.ensures.outcome.err)

pub loop-preserved : goal.loop-preserved
loop-preserved g c =
    let i = c.loop.invariant in
    let e = c.next_migrated.ensures in
    let next = c.in-Some.next in
    let arc = c.in_ok-level.ensures.ok in
    let put = c.deref.result.now in
    let same : put ≡ next.level = search rules in
    let right = subst (λ o. IfSome o (λ m. Consistent c.loop.shelf m.level)) c.in-Some.is c.in_ok-next.ensures.right in
    let level : put.level ≡ c.loop.counter = ap (λ (image : Image). image.level) same ∙ right.next ∙ i.levels in
    let after = c.push.ensures ∙ ap (λ x. c.loop.shelf ++ x ∷ []) arc in
    record {
      levels = longer c.loop.shelf c.push.new.self next.level c.loop.counter i.levels after;
      len = c.push_reserved.ensures.len ∙ ap (λ n. n + 1) i.len;
      room = omega (arith, c.push_reserved.ensures.capacity, i.room);
      come = λ names others from to.
          let n = length c.loop.shelf in
          let migrated = subst (IsNextMigrated c.loop.shelf c.loop.below (names n)) c.in-Some.is (c.in_ok-next.ensures.exact (names n) (others n) (i.unchanged.stands n ∙ from n)) in
          come-next names others _ _ c.loop.counter c.loop.shelf c.push.new.self c.loop.below next.digest c.loop.limits.items c.push_reserved.new.self.items c.loop.digest c.in_ok-digest.digest next.level put next.limits
          i.levels same right (i.come names others from to) migrated c.in_ok-digest.ensures.free c.store.ensures.outcome.leaves.others (λ s held right. subst (HoldsIn _ (s ++ put ∷ [])) (sym c.in_ok-digest.ensures.outcome.digest.1) (c.in_ok-digest.ensures.outcome.saved.next s held right)) after c.push_reserved.ensures.items;
      to_rest = λ others to. rest-more others _ _ c.loop.counter put.level level c.store.ensures.outcome.leaves.others (i.to_rest others to);
      whole = record {
        still = λ n o h. c.store.ensures.outcome.leaves.still n o (i.whole.still n o h);
        whole = λ others to. leaves-more others ((g.G.Folder.state c.loop.to).stands) _ _ _ put c.loop.digest (i.to_rest others to put.level (omega (arith, level))) (i.whole.whole others to) c.store.ensures.outcome.leaves.crash;
      };
      kept = λ n bytes is. c.store.ensures.kept n bytes (i.kept n bytes is);
      from_refused = c.in_ok-next.ensures.reads.refused ∙ i.from_refused;
      to_refused = c.in_ok-digest.ensures.outcome.refused ∙ i.to_refused;
      unchanged = unchanged_then _ _ _ i.unchanged e.reads.unchanged;
    }

pub returns-clause-exact : goal.returns-clause-exact
returns-clause-exact g c = λ names others from to.
    let i = c.loop.invariant in
    let n = length c.loop.shelf in
    elim c.loop-test.branch [
      | else-loop-test w ↦ come_end names others _ c.loop.counter c.loop.shelf c.loop.below c.loop.limits.items c.loop.digest i.levels (i.come names others from to) (inr (omega (arith, i.levels, w.loop-test.false)))
      | then-loop-test+in_ok-next+in_default w ↦
          let migrated = w.in_ok-next.ensures.exact (names n) (others n) (i.unchanged.stands n ∙ from n) in
          let none : names n ≡ None = subst (IsNextMigrated c.loop.shelf c.loop.below (names n)) w.in_default.is migrated in
          come_end names others _ c.loop.counter c.loop.shelf c.loop.below c.loop.limits.items c.loop.digest i.levels (i.come names others from to) (inl none)
    ]

pub returns-in_err-next-clause-refused : goal.returns-in_err-next-clause-refused
returns-in_err-next-clause-refused g c =
    let i = c.loop.invariant in
    let p = err_from_is_err_and c.from_residual-in_err-next.result c.from_residual-in_err-next.ensures.1 in
    rw (p.1, p.2) (either_first c.in_err-next.field-0.0 _ _ _ _ _ c.in_err-next.ensures.reads.refused i.from_refused i.to_refused)

pub returns-in_err-digest-clause-refused : goal.returns-in_err-digest-clause-refused
returns-in_err-digest-clause-refused g c =
    let i = c.loop.invariant in
    let p = err_from_is_err_and c.from_residual-in_err-digest.result c.from_residual-in_err-digest.ensures.1 in
    rw (p.1, p.2) (either_second c.in_err-digest.field-0.0 _ _ _ _ _ c.in_err-digest.ensures.outcome.refused i.to_refused (c.in_ok-next.ensures.reads.refused ∙ i.from_refused))

pub returns-in_err-limits-clause-refused : goal.returns-in_err-limits-clause-refused
returns-in_err-limits-clause-refused g c =
    let p = err_from_is_err_and c.from_residual.result c.from_residual.ensures.1 in
    rw (p.1, p.2) (inl refl, inl refl)

pub returns-in_err-level-clause-refused : goal.returns-in_err-level-clause-refused
returns-in_err-level-clause-refused g c =
    let i = c.loop.invariant in
    let p = err_from_is_err_and c.from_residual-in_err-level.result c.from_residual-in_err-level.ensures.1 in
    rw (p.1, p.2) (inl (c.in_ok-next.ensures.reads.refused ∙ i.from_refused), inl i.to_refused)

pub returns-in_err-digest-clause-whole : goal.returns-in_err-digest-clause-whole
returns-in_err-digest-clause-whole g c =
    let i = c.loop.invariant in
    let next = c.in-Some.next in
    let put = c.deref.result.now in
    let same : put ≡ next.level = search rules in
    let right = subst (λ o. IfSome o (λ m. Consistent c.loop.shelf m.level)) c.in-Some.is c.in_ok-next.ensures.right in
    let level : put.level ≡ c.loop.counter = ap (λ (image : Image). image.level) same ∙ right.next ∙ i.levels in
    record {
      still = λ n o h. c.store.ensures.outcome.leaves.still n o (i.whole.still n o h);
      whole = λ others to. leaves-more others ((g.G.Folder.state c.loop.to).stands) _ _ _ put c.loop.digest (i.to_rest others to put.level (omega (arith, level))) (i.whole.whole others to) c.store.ensures.outcome.leaves.crash;
    }

pub returns-in_err-digest-clause-named : goal.returns-in_err-digest-clause-named
returns-in_err-digest-clause-named g c =
    let i = c.loop.invariant in
    let p = err_from_is_err_and c.from_residual-in_err-digest.result c.from_residual-in_err-digest.ensures.1 in
    let next = c.in-Some.next in
    let put = c.deref.result.now in
    let same : put ≡ next.level = search rules in
    let right = subst (λ o. IfSome o (λ m. Consistent c.loop.shelf m.level)) c.in-Some.is c.in_ok-next.ensures.right in
    let level : put.level ≡ c.loop.counter = ap (λ (image : Image). image.level) same ∙ right.next ∙ i.levels in
    rw (p.1, p.2) (record { level = put.level; low = omega (arith, level); named = c.in_err-digest.ensures.named })
